-- Rescuing the result again: what is kept is whole, so that joined it is cut as it was, and is kept again; and the
-- stamps among it are all that there were. Assumes nothing.
use Prim.Native.Nat.{ℕ}
use mathlib.Core.Path.{◌≡◌, refl, ap, ap₂, ◌∙◌}
use mathlib.Core.Bool.{false}
use mathlib.Core.Logic.{inl, inr}
use mathlib.Core.List.{List, [], ◌∷◌}
use Rattle.std.specs.Prelude.{Option, None, Some}
use Rattle.ground.specs.Lists.{All}
use Rattle.ground.proofs.Cases.{by_bool, choose}
use Rattle.ump.specs.Packet.{Whole, cut, first, packet}
use Rattle.recording.specs.declared.Past.{Past}
use Rattle.recording.specs.declared.Line.{Line}
use Rattle.recording.specs.Recording.{is_stamp, line_kept, passes, past_after, stamp_after, stamp_of, start, ticks_after}
use Rattle.rescue_claims.specs.Rescued.{RescuedAgain, clean, drop_words, is_drop, kept_packets, lines_from, undropped}
use Rattle.stream.proofs.Pieces.{Tidy, cut-tidy}
use Rattle.stream.proofs.CutLaws.{cut_all}
use Rattle.rescue_claims.proofs.PieceLaws.{dropped-whole, short_none}
use Rattle.rescue_claims.proofs.KeptLaws.{none_passes}

kept_whole : (ps : List (List ℕ)) → Tidy ps → All Whole (kept_packets ps)
unfolding kept_packets
kept_whole [] d = tt
kept_whole (p ∷ ps) (inl d) =
    choose (All Whole) (passes (packet p)) (λ _. (d.0, kept_whole ps d.1)) (λ _. kept_whole ps d.1)
kept_whole (p ∷ ps) (inr d) = rw (short_none p d.0, none_passes, d.1) tt

kept_again : (ps : List (List ℕ)) → kept_packets (kept_packets ps) ≡ kept_packets ps
unfolding kept_packets
kept_again [] = refl
kept_again (p ∷ ps) = by_bool (passes (packet p)) (λ e. rw (e, e, kept_again ps)) (λ e. rw e (kept_again ps))

cut-clean : (s : List ℕ) → cut (clean s) ≡ kept_packets (cut s)
cut-clean s = cut_all (kept_packets (cut s)) (kept_whole (cut s) (cut-tidy s))

-- what is said of a packet that is kept is no drop
at-stamp : (P : Option Line → Type 0) (stamp : Option ℕ) (w : ℕ)
    → ((e : ℕ) → stamp ≡ Some e → P (ticks_after (Some e) (stamp_of w))) → P (ticks_after None (stamp_of w))
    → P (line_kept stamp w)
unfolding line_kept
at-stamp P stamp w f g = choose P (is_stamp w) (λ _. go stamp refl) (λ _. g)
  where
    go : (s : Option ℕ) → stamp ≡ s → P (ticks_after s (stamp_of w))
    go None e = g
    go (Some e) z = f e z

pub kept-no-drop : (stamp : Option ℕ) (w : ℕ) → is_drop (line_kept stamp w) ≡ false
kept-no-drop stamp w = at-stamp (λ (l : Option Line). is_drop l ≡ false) stamp w (λ _ _. refl) refl

pub kept-no-words : (stamp : Option ℕ) (w : ℕ) → ◌≡◌ {A = ℕ} (drop_words (line_kept stamp w)) 0
kept-no-words stamp w = at-stamp (λ (l : Option Line). ◌≡◌ {A = ℕ} (drop_words l) 0) stamp w (λ _ _. refl) refl

no-drops : (ps : List (List ℕ)) (past : Past) → All (λ l. is_drop l ≡ false) (lines_from past (kept_packets ps))
unfolding kept_packets lines_from
no-drops [] past = tt
no-drops (p ∷ ps) past =
    by_bool (passes (packet p))
    (λ e. rw (e, e) (kept-no-drop past.stamp (first p), no-drops ps (past_after past p))) (λ e. rw e (no-drops ps past))

stays : (w : ℕ) (s : Option ℕ) → is_stamp w ≡ false → s ≡ stamp_after s w
unfolding stamp_after
stays w s h = rw h

-- the stamps are the same, and the places do not matter
same-ticks : (ps : List (List ℕ)) → Tidy ps → (a b : Past) → a.stamp ≡ b.stamp
    → lines_from a (kept_packets ps) ≡ undropped (lines_from b ps)
unfolding kept_packets lines_from undropped past_after
same-ticks [] d a b e = refl
same-ticks (p ∷ ps) (inr d) a b e = rw (short_none p d.0, none_passes, d.1)
same-ticks (p ∷ ps) (inl d) a b e =
    by_bool (passes (packet p))
    (λ h. rw (h, h, kept-no-drop b.stamp (first p))
    (ap₂ (λ (l : Option Line) (ls : List (Option Line)). l ∷ ls) (ap (λ (s : Option ℕ). line_kept s (first p)) e)
    (same-ticks ps d.1 (past_after a p) (past_after b p) (ap (λ (s : Option ℕ). stamp_after s (first p)) e))))
    (λ h. rw h (same-ticks ps d.1 a (past_after b p) (e ∙ stays (first p) b.stamp (dropped-whole p d.0 h))))

pub proved-rescued-again : RescuedAgain
proved-rescued-again =
    record {
      same = λ s. rw (cut-clean s, kept_again (cut s));
      drops = λ s. rw (cut-clean s) (no-drops (cut s) start);
      ticks = λ s. rw (cut-clean s) (same-ticks (cut s) (cut-tidy s) start start refl);
    }
