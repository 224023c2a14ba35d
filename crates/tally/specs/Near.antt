-- The sort of a packet is that of the piece that is cut there: no word behind it has a say.
use Rattle.std.proofs.Common.{◌≡◌, ℕ, List, ◌∷◌, ap, take}
use Rattle.ump.specs.Packet.{size}
use Rattle.ump.specs.Word.{voice2}
use Rattle.ump.proofs.PacketLaws.{packet-near}
use Rattle.stream.specs.Call.{answer_of}
use Rattle.stream.specs.Report.{place_told}
use Rattle.screen.specs.Screen.{neither_type, screen}
use Rattle.voice.specs.Packet.{call_down_by, packet_down}
use Rattle.outlet.specs.Outlet.{screen_out}
use Rattle.tally.specs.Tally.{sort_down, sort_heard, sort_of, sort_out, sort_up}

pub up_near : (w : ℕ) (s : List ℕ) → sort_up (take (size w) (w ∷ s)) ≡ sort_up (w ∷ s)
up_near w s = ap (λ (p : List ℕ). sort_of (screen voice2 p).answer (screen voice2 p).place) (packet-near w s)

pub down_near : (w : ℕ) (s : List ℕ) → sort_down (take (size w) (w ∷ s)) ≡ sort_down (w ∷ s)
unfolding call_down_by
down_near w s =
    ap (λ (p : List ℕ). sort_of (answer_of (packet_down p)) (place_told (answer_of (packet_down p)) p))
    (packet-near w s)

pub out_near : (g w : ℕ) (s : List ℕ) → sort_out g (take (size w) (w ∷ s)) ≡ sort_out g (w ∷ s)
out_near g w s = ap (λ (p : List ℕ). sort_of (screen_out g p).answer (screen_out g p).place) (packet-near w s)

pub heard_near : (w : ℕ) (s : List ℕ) → sort_heard (take (size w) (w ∷ s)) ≡ sort_heard (w ∷ s)
heard_near w s =
    ap (λ (p : List ℕ). sort_of (screen neither_type p).answer (screen neither_type p).place) (packet-near w s)
