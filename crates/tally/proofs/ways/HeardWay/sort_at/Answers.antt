-- Where a packet is only heard the screening alone refuses it as well.
use Rattle.std.proofs.Common.{◌∙◌, drop, ap, List, ℕ}
use Rattle.ump.specs.Packet.{packet}
use Rattle.screen.specs.Screen.{judged, neither_type, screen}
use Rattle.tally.specs.Tally.{sort_found}
use Rattle.tally.proofs.FoundLaws.{found-sort, screen-none}
use Rattle.tally.proofs.ways.HeardWay.sort_at.Goals as goal

pub returns : goal.returns
returns c =
    let p = packet (drop c.args.at c.args.words.now) in
    c.sort_found.ensures
    ∙ ap sort_found (c.screen.ensures ∙ ap (λ (q : List ℕ). judged (screen neither_type q)) c.packet_at.ensures)
    ∙ found-sort (screen neither_type p) (screen-none neither_type p)
