-- The calls of the run into lines, over what the code keeps: the table.
use Rattle.std.specs.Prelude.{ℕ, ◌≡◌, false, List, ◌∷◌, take}
use mathlib.Core.Path.{ap}
use Rattle.ump.specs.Packet.{packet, size}
use Rattle.ump.proofs.PacketLaws.{packet-near}
use Rattle.stream.specs.Call.{Call, stopped, went}
use Rattle.stream.specs.Calls.{Inside, OwnPacket, seen}
use Rattle.stream.proofs.SeenLaws.{inside-seen}
use Rattle.screen.specs.Screen.{open_rule}
use Rattle.channel.specs.declared.Record.{Record}
use Rattle.flow.specs.declared.lines.Listing.{Listing}
use Rattle.flow.specs.Listing.{list_up, listed}
use Rattle.table.specs.Table.{table_up}
use Rattle.table.proofs.TableLaws.{table-inside, table-near}

abbrev pub kept : List Record → Listing
kept t = record { table = record { records = t } }

abbrev pub listing : Listing → List ℕ → Call Listing
listing x s = seen kept (list_up x.table.records s)

-- a call looks at its own packet alone, and goes on only with a whole one
list-near : (t : List Record) (w : ℕ) (s : List ℕ) → list_up t (take (size w) (w ∷ s)) ≡ list_up t (w ∷ s)
unfolding list_up
list-near t w s = rw (packet-near w s, table-near open_rule false t w s)

listed-inside : {T : Type 0} (p s : List ℕ) (c : Call T) → Inside s c → Inside s (listed p c)
listed-inside p s (went a ws u) h = h
listed-inside p s (stopped a) h = tt

list_inside : (t : List Record) (w : ℕ) (s : List ℕ) → Inside (w ∷ s) (list_up t (w ∷ s))
unfolding list_up
list_inside t w s = listed-inside (packet (w ∷ s)) (w ∷ s) (table_up t (w ∷ s)) (table-inside open_rule false t w s)

pub listing-own : OwnPacket listing
listing-own =
    record {
      alone = λ x w s. ap (seen kept) (list-near x.table.records w s);
      whole = λ x w s. inside-seen kept (w ∷ s) (list_up x.table.records (w ∷ s)) (list_inside x.table.records w s);
    }
