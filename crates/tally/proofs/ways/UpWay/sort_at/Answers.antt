-- Going up the screening alone refuses a packet.
use Rattle.std.proofs.Common.{◌∙◌, drop, ap, List, ℕ}
use Rattle.ump.specs.Word.{voice2}
use Rattle.ump.specs.Packet.{packet}
use Rattle.screen.specs.Screen.{judged, screen}
use Rattle.tally.specs.Tally.{sort_found}
use Rattle.tally.proofs.FoundLaws.{found-sort, screen-none}
use Rattle.tally.proofs.ways.UpWay.sort_at.Goals as goal

pub returns : goal.returns
returns c =
    let p = packet (drop c.args.at c.args.words.now) in
    c.sort_found.ensures
    ∙ ap sort_found (c.screen.ensures ∙ ap (λ (q : List ℕ). judged (screen voice2 q)) c.packet_at.ensures)
    ∙ found-sort (screen voice2 p) (screen-none voice2 p)
