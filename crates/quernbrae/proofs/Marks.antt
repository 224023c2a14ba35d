-- What a mark says of the table, from what `marking` says of the record that is read: `e` is what is read past the end,
-- where no record that is named stands. Assumes nothing.
use Rattle.std.proofs.Common.{◌≡◌, ◌∙◌, ℕ, true, false, List, length, get_or, set, refl, ap}
use Rattle.std.proofs.lemmas.List.{get_or_default}
use Rattle.ground.proofs.Bools.{and_left, and_right}
use Rattle.ground.proofs.Cases.{by_bool}
use Rattle.channel.specs.declared.Record.{Record}
use Rattle.channel.specs.Record.{empty}
use Rattle.question.specs.Question.{place_asked}
use Rattle.mark.specs.Mark.{answer_for, mark_answer, named, record_marked, record_of, table_marked, unnamed}
use Rattle.mark.proofs.PlaceLaws.{named-inside}
use Rattle.hosts.specs.Hosts.{host_mark_answer, host_table_marked, may_mark, owns, unmarked}

-- what is answered of a record, and what it is after
abbrev pub Marked : Record → ℕ → ℕ → Record → Type 0
Marked r coarse answer after = (answer ≡ answer_for r) × (after ≡ record_marked r coarse)

module _ (t : List Record) (group channel coarse : ℕ) where
  -- the record that is read is the one that is named
  read_is : named (length t) group channel ≡ true → (i : ℕ) → i ≡ place_asked group channel → (e : Record)
      → get_or t i e ≡ record_of t group channel
  read_is h i p e =
      ap (λ (k : ℕ). get_or t k e) p
      ∙ get_or_default t (place_asked group channel) e empty (named-inside (length t) group channel h)

  pub marked-named : named (length t) group channel ≡ true → (i : ℕ) → i ≡ place_asked group channel → (e : Record)
      → (answer : ℕ) (after : Record) → Marked (get_or t i e) coarse answer after
      → (answer ≡ mark_answer t group channel) × (set t i after ≡ table_marked t group channel coarse)
  unfolding mark_answer table_marked
  marked-named h i p e answer after m =
      let r = read_is h i p e in
      let k : record_marked (get_or t i e) coarse ≡ record_marked (record_of t group channel) coarse =
      ap (λ (x : Record). record_marked x coarse) r in (
        m.0 ∙ ap answer_for r ∙ rw h refl,
        ap (λ (x : Record). set t i x) (m.1 ∙ k)
            ∙ ap (λ (n : ℕ). set t n (record_marked (record_of t group channel) coarse)) p ∙ rw h refl,
      )

  pub marked-unnamed : named (length t) group channel ≡ false
      → (unnamed (length t) ≡ mark_answer t group channel) × (t ≡ table_marked t group channel coarse)
  unfolding mark_answer table_marked
  marked-unnamed h = rw h (refl, refl)

  -- the same of a host
  module _ (host : ℕ) (owners : List ℕ) where
    pub host-marked : may_mark host owners (length t) group channel ≡ true
        → (mark_answer t group channel ≡ host_mark_answer host owners t group channel)
        × (table_marked t group channel coarse ≡ host_table_marked host owners t group channel coarse)
    unfolding host_mark_answer host_table_marked
    host-marked h =
        let n = and_left (named (length t) group channel) (owns host owners group) h in
        let o = and_right (named (length t) group channel) (owns host owners group) h in
        rw (n, o) (refl, refl)

    pub host-unmarked : may_mark host owners (length t) group channel ≡ false
        → (unmarked (length t) group channel ≡ host_mark_answer host owners t group channel)
        × (t ≡ host_table_marked host owners t group channel coarse)
    unfolding host_mark_answer host_table_marked mark_answer table_marked
    host-unmarked h =
        by_bool (named (length t) group channel)
        (λ f. let m : owns host owners group ≡ false = rw f at h in rw (f, m) (refl, refl))
        (λ f. rw f (refl, refl))
