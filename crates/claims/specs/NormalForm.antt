-- What follows from demand 3 (RULES 9.2): the stream in the middle is a normal form.
use Rattle.std.specs.Prelude.{ℕ, ◌≤◌, ◌≡◌, ◌↔◌, List}
use Rattle.ground.specs.Lists.{All}
use Rattle.ump.specs.Packet.{cut}
use Rattle.stream.specs.Answers.{sent, taken_in}
use Rattle.stream.specs.Call.{answer_of}
use Rattle.stream.specs.Run.{run}
use Rattle.stream.specs.Claims.{Made, calls}
use Rattle.channel.specs.declared.Record.{Record}
use Rattle.channel.specs.Record.{EmptyButMarks, fresh}
use Rattle.voice.specs.Packet.{call_down}
use Rattle.table.specs.Table.{table_up}
use Rattle.claims.specs.RoundTrip.{Blank}

-- a stream up from the table t, and a stream down, with unlimited room
unfoldable pub upward : List Record → List ℕ → List ℕ
upward t s = (run table_up t (cut s)).sends

unfoldable pub downward : List ℕ → List ℕ
downward s = (run call_down tt (cut s)).sends

unfoldable pub normal : List Record → List ℕ → List ℕ
normal t s = downward (upward t s)

-- `normal t` picks one MIDI 1.0 stream of all that mean the same going up from the table t.
pub record NormalFrom (t : List Record) : Type 0 where
  -- two streams send the same words up exactly if their normal forms are the same
  pub same : (s u : List ℕ) → (upward t s ≡ upward t u) ↔ (normal t s ≡ normal t u)
  -- a normal form is its own
  pub own : (s : List ℕ) → normal t (normal t s) ≡ normal t s
  -- nothing of it is refused when it goes up again, and the run comes to its end
  pub taken : (s : List ℕ)
      → All (λ (m : Made (List Record)). answer_of m.call ≤ taken_in) (calls table_up t (cut (normal t s)))
  pub ends : (s : List ℕ) → (run table_up t (cut (normal t s))).answer ≡ sent

pub record NormalForm : Type 0 where
  pub blank : (t : List Record) → Blank t → NormalFrom t
  pub marked : (t : List Record) → EmptyButMarks t → NormalFrom t
  pub at_fresh : NormalFrom fresh
