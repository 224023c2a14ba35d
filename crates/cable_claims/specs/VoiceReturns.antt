-- Sound MT 2 packets out and in again (RULES 12.5; 02 M-100): they come back, with unused bytes zero.
use Rattle.std.specs.Prelude.{ℕ, ◌*◌, ◌-◌, ◌≤◌, ◌<◌, ◌^◌, ◌≡◌, List, map, eqb, length}
use Rattle.ground.specs.Lists.{All}
use Rattle.ump.specs.Word.{byte2, byte3, byte4, group_of, message_type, status, voice1}
use Rattle.stream.specs.Answers.{sent}
use Rattle.cable.specs.State.{idle, need, pick}
use Rattle.inlet.specs.Inlet.{run_in}
use Rattle.outlet.specs.Outlet.{run_out}
use Rattle.cable_claims.specs.Words.{Fine}

-- A sound MT 2 word of the group: its status is 8 to 14, and the data bytes that it has are at most 127.
pub record Voice (g w : ℕ) : Type 0 where
  pub word : w < 2 ^ 32
  pub kind : message_type w ≡ voice1
  pub group : (group_of w).0 ≡ g
  pub low : 8 ≤ status w
  pub high : status w ≤ 14
  pub first : byte3 w ≤ 127
  pub second : need (byte2 w) ≡ 2 → byte4 w ≤ 127

-- the last byte of a message that has one data byte is unused
unfoldable pub cleaned : ℕ → ℕ
cleaned w = pick (eqb (need (byte2 w)) 2) w (w - byte4 w)

-- in outputs with room for three bytes and for one word for each
pub record VoiceReturns : Type 0 where
  pub exports : (g room : ℕ) (ws : List ℕ) → g ≤ 15 → All (Voice g) ws → 3 * length ws ≤ room
      → ((run_out g room ws).answer ≡ sent) × ((run_out g room ws).read ≡ length ws)
  pub returns : (g room space : ℕ) (ws : List ℕ) → g ≤ 15 → All (Voice g) ws → 3 * length ws ≤ room
      → length ws ≤ space
      → let bs = (run_out g room ws).sends in
      let r = run_in g space (idle 0) bs in
      (r.answer ≡ sent) × (r.read ≡ length bs) × (r.sends ≡ map cleaned ws) × Fine g (idle 0) bs
