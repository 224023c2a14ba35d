-- A whole exclusive out and in again (RULES 12.5; 02 M-100): its payload comes back, whatever the sizes of its packets.
use Rattle.std.specs.Prelude.{ℕ, ◌*◌, ◌≤◌, ◌≡◌, List, [], ◌∷◌, ◌++◌, length}
use Rattle.ground.specs.Lists.{All, joined}
use Rattle.ump.specs.Word.{count, group_of, message_type, status}
use Rattle.ump.specs.Packet.{cut, first, second}
use Rattle.stream.specs.Answers.{sent}
use Rattle.cable.specs.State.{idle}
use Rattle.cable.specs.Hearing.{last_form, more_form}
use Rattle.inlet.specs.Inlet.{run_in}
use Rattle.outlet.specs.Outlet.{payload, run_out}
use Rattle.cable_claims.specs.Words.{Fine}

-- A sound MT 3 packet of the group with a status: its count is 0 to 6, and as many bytes of it are at most 127.
pub record Part (g form : ℕ) (p : List ℕ) : Type 0 where
  pub two : length p ≡ 2
  pub kind : message_type (first p) ≡ 3
  pub group : (group_of (first p)).0 ≡ g
  pub shape : status (first p) ≡ form
  pub few : count (first p) ≤ 6
  pub small : All (λ (x : ℕ). x ≤ 127) (payload (first p) (second p))

-- A whole exclusive: one complete packet, or a start, continues and an end. With `begun` 1: what is left of one.
unfoldable pub Whole : ℕ → ℕ → List (List ℕ) → Type 0
Whole g begun [] = ⊥
Whole g begun (p ∷ []) = Part g (last_form begun) p
Whole g begun (p ∷ q ∷ ps) = Part g (more_form begun) p × Whole g 1 (q ∷ ps)

-- the payloads one after another
unfoldable pub payloads : List (List ℕ) → List ℕ
payloads [] = []
payloads (p ∷ ps) = payload (first p) (second p) ++ payloads ps

-- in outputs with room for eight bytes for each packet, and for two words for each byte
pub record ExclusiveReturns : Type 0 where
  pub exports : (g room : ℕ) (ps : List (List ℕ)) → g ≤ 15 → Whole g 0 ps → 8 * length ps ≤ room
      → ((run_out g room (joined ps)).answer ≡ sent) × ((run_out g room (joined ps)).read ≡ length (joined ps))
  pub returns : (g room space : ℕ) (ps : List (List ℕ)) → g ≤ 15 → Whole g 0 ps → 8 * length ps ≤ room
      → let bs = (run_out g room (joined ps)).sends in
      let r = run_in g space (idle 0) bs in
      2 * length bs ≤ space
      → (r.answer ≡ sent) × (r.left ≡ idle 0) × Whole g 0 (cut r.sends) × (payloads (cut r.sends) ≡ payloads ps)
      × Fine g (idle 0) bs
