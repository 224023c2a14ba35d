-- Out to a cable the screening alone refuses a packet as well.
use Rattle.std.proofs.Common.{◌∙◌, drop, ap, List, ℕ}
use Rattle.ump.specs.Packet.{packet}
use Rattle.screen.specs.Screen.{judged}
use Rattle.outlet.specs.Outlet.{screen_out}
use Rattle.tally.specs.Tally.{sort_found}
use Rattle.tally.proofs.FoundLaws.{found-sort, out-none}
use Rattle.tally.proofs.ways.OutWay.sort_at.Goals as goal

pub returns : goal.returns
returns c =
    let p = packet (drop c.args.at c.args.words.now) in
    let g = c.args.self.0 in
    c.sort_found.ensures
    ∙ ap sort_found (c.screen_out.ensures ∙ ap (λ (q : List ℕ). judged (screen_out g q)) c.packet_at.ensures)
    ∙ found-sort (screen_out g p) (out-none g p)
