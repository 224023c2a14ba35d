-- The stream in the middle is a normal form. Assumes nothing.
use Prim.Native.Nat.{ℕ, ◌≤◌}
use mathlib.Core.Path.{◌≡◌, sym, ap, ◌∙◌}
use mathlib.Core.List.{List}
use native.Mathlib.Omega.{arith}
use Rattle.ground.specs.Lists.{All}
use Rattle.ump.specs.Packet.{cut}
use Rattle.stream.specs.Claims.{calls}
use Rattle.channel.specs.declared.Record.{Record}
use Rattle.channel.specs.Record.{fresh}
use Rattle.screen.specs.Screen.{open_rule}
use Rattle.table.specs.Table.{table_up}
use Rattle.table.proofs.KeptLaws.{fresh_unmarked}
use Rattle.claims.specs.NormalForm.{NormalForm, NormalFrom, downward, normal, upward}
use Rattle.claims.specs.RoundTrip.{Blank}
use Rattle.claims.proofs.RoundLaws.{Taken, taken-ends}
use Rattle.claims.proofs.RoundTrip.{all_pass, marked-blank, open-gate, returns, still-all}
use Rattle.claims.proofs.StepLaws.{up-stops}

module _ (t : List Record) (y : Blank t) where
  back : (s : List ℕ) → (upward t (normal t s) ≡ upward t s) × All Taken (calls table_up t (cut (normal t s)))
  unfolding upward downward normal
  back s = returns all_pass table_up open-gate still-all t y s

  normal-from : NormalFrom t
  unfolding normal
  normal-from =
      record {
        same = λ s u. (λ e. ap downward e, λ e. sym (back s).0 ∙ ap (upward t) e ∙ (back u).0);
        own = λ s. ap downward (back s).0;
        taken = λ s. (back s).1;
        ends = λ s.
            taken-ends table_up (up-stops (λ (a : ℕ). 2 ≤ a) (omega arith) (omega arith) (omega arith) open_rule)
            (cut (normal t s)) t (back s).1;
      }

pub proved-normal-form : NormalForm
proved-normal-form =
    record {
      blank = normal-from;
      marked = λ t m. normal-from t (marked-blank t m);
      at_fresh = normal-from fresh (marked-blank fresh fresh_unmarked);
    }
