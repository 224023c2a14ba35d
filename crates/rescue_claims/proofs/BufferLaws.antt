-- Buffer by buffer: a run that reads some of its words has read whole packets, and what it sends is what the run over all
-- sends for them. Assumes nothing.
use Prim.Native.Nat.{ℕ, ◌+◌, ◌*◌, ◌-◌, ◌/◌}
use mathlib.Core.Path.{◌≡◌, refl, sym, ap, ◌∙◌}
use mathlib.Core.Bool.{Bool, true, false, cond}
use mathlib.Core.Logic.{inl, inr}
use mathlib.Core.List.{List, [], ◌∷◌, ◌++◌, append_assoc, append-nil}
use native.Mathlib.Omega.{arith}
use lib.Dec.{leb}
use lib.ListN.{drop, length, length-append, take}
use lib.Seq.{drop_at, take_at}
use borrow.Author.Tests.{ne_eqb}
use Rattle.ground.specs.Lists.{All, joined}
use Rattle.ground.proofs.Cases.{by_bool}
use Rattle.ump.specs.Packet.{Whole, cut, packet}
use Rattle.ump.proofs.PacketLaws.{packet-whole}
use Rattle.stream.specs.Answers.{cut_packet, no_room, sent}
use Rattle.stream.specs.Call.{stopped, went, within}
use Rattle.stream.specs.Run.{Ran, run, then_run}
use Rattle.text.specs.Rescue.{drop_line}
use Rattle.recording.specs.declared.Past.{Past}
use Rattle.recording.specs.Recording.{cut_line, line_of, passes, past_after, text_of}
use Rattle.rescuing.specs.Rescue.{run_tell, tell}
use Rattle.screen.specs.Screen.{screen_by}
use Rattle.rescue_claims.specs.Rescued.{BufferByBuffer, clean, kept_packets, lines_from, texts}
use Rattle.stream.proofs.Pieces.{Short, Tidy, cut-tidy}
use Rattle.stream.proofs.CutLaws.{cut_all, cut-joined}
use Rattle.rescue_claims.proofs.PieceLaws.{joined-cut, short_none}
use Rattle.rescue_claims.proofs.PieceLaws.{short-some, whole-some}
use Rattle.rescue_claims.proofs.SumLaws.{joined-append}

-- a whole piece goes on, and a short one stops
tell-goes : (t : Past) (p : List ℕ) → Whole p → tell t p ≡ went sent (text_of (line_of t p)) (past_after t p)
unfolding tell
tell-goes t p h = rw (packet-whole p h, ne_eqb (length p) 0 (whole-some p h))

tell-stops : (t : Past) (p : List ℕ) → Short p → tell t p ≡ stopped cut_packet
unfolding tell
tell-stops t p h = rw (short_none p h)

-- the pieces that a run has read, and those that it has not
record Part (t : Past) (ps : List (List ℕ)) (r : Ran (ℕ × Past)) : Type 0 where
  pub qs : List (List ℕ)
  pub rs : List (List ℕ)
  pub splits : ps ≡ qs ++ rs
  pub whole : All Whole qs
  pub reads : r.read ≡ length (joined qs)
  pub sends : (x : List (List ℕ)) → (run tell t (qs ++ x)).sends ≡ r.sends ++ (run tell r.left.1 x).sends

part : (ps : List (List ℕ)) → Tidy ps → (t : Past) (room : ℕ) → Part t ps (run (within tell) (room, t) ps)
unfolding run within
part [] d t room = record { qs = []; rs = []; splits = refl; whole = tt; reads = refl; sends = λ x. refl }
part (p ∷ ps) (inr d) t room =
    rw (tell-stops t p d.0)
    (record { qs = []; rs = p ∷ ps; splits = refl; whole = tt; reads = refl; sends = λ x. refl })
part (p ∷ ps) (inl d) t room =
    rw (tell-goes t p d.0) (go (leb (length row) room) (part ps d.1 (past_after t p) (room - length row)))
  where
    row : List ℕ
    row = text_of (line_of t p)

    go : (b : Bool) → Part (past_after t p) ps (run (within tell) (room - length row, past_after t p) ps)
        → Part t (p ∷ ps) (then_run p (room, t) (cond b (went sent row (room - length row, past_after t p)) (stopped no_room))
        (λ s. run (within tell) s ps))
    go false i = record { qs = []; rs = p ∷ ps; splits = refl; whole = tt; reads = refl; sends = λ x. refl }
    go true i =
        let r = run (within tell) (room - length row, past_after t p) ps in
        record {
          qs = p ∷ i.qs;
          rs = i.rs;
          splits = ap (λ (l : List (List ℕ)). p ∷ l) i.splits;
          whole = (d.0, i.whole);
          reads = rw i.reads (sym (length-append p (joined i.qs)));
          sends = λ x.
              rw (tell-goes t p d.0, i.sends x)
              (sym (append_assoc row r.sends (run tell r.left.1 x).sends));
        }

kept_append : (xs ys : List (List ℕ)) → kept_packets (xs ++ ys) ≡ kept_packets xs ++ kept_packets ys
unfolding kept_packets
kept_append [] ys = refl
kept_append (x ∷ xs) ys =
    by_bool (passes (packet x)) (λ e. rw (e, kept_append xs ys)) (λ e. rw (e, kept_append xs ys))

module _ (ws more : List ℕ) (room : ℕ) (past : Past) where
  abbrev r : Ran (ℕ × Past)
  r = run_tell room past ws

  got : Part past (cut ws) r
  got = part (cut ws) (cut-tidy ws) past room

  -- the words are those read, and those that are left
  are : ws ≡ joined got.qs ++ joined got.rs
  are = sym (joined-cut ws) ∙ ap joined got.splits ∙ joined-append got.qs got.rs

  front : take r.read ws ≡ joined got.qs
  front = ap (take r.read) are ∙ take_at (joined got.qs) (joined got.rs) r.read (sym got.reads)

  back : drop r.read ws ≡ joined got.rs
  back = ap (drop r.read) are ∙ drop_at (joined got.qs) (joined got.rs) r.read (sym got.reads)

  all : cut (ws ++ more) ≡ got.qs ++ cut (drop r.read ws ++ more)
  all =
      ap (λ (l : List ℕ). cut (l ++ more)) are
      ∙ ap cut (append_assoc (joined got.qs) (joined got.rs) more)
      ∙ cut-joined got.qs (joined got.rs ++ more) got.whole
      ∙ ap (λ (l : List ℕ). got.qs ++ cut (l ++ more)) (sym back)

  told : (run tell past (cut (ws ++ more))).sends
      ≡ r.sends ++ (run tell r.left.1 (cut (drop r.read ws ++ more))).sends
  told = ap (λ (l : List (List ℕ)). (run tell past l).sends) all ∙ got.sends (cut (drop r.read ws ++ more))

  kept : clean (ws ++ more) ≡ clean (take r.read ws) ++ clean (drop r.read ws ++ more)
  kept =
      ap (λ (l : List (List ℕ)). joined (kept_packets l)) all
      ∙ ap joined (kept_append got.qs (cut (drop r.read ws ++ more)))
      ∙ joined-append (kept_packets got.qs) (kept_packets (cut (drop r.read ws ++ more)))
      ∙ ap (λ (l : List (List ℕ)). joined (kept_packets l) ++ clean (drop r.read ws ++ more))
      (sym (ap cut front ∙ cut_all got.qs got.whole))

-- the end: what is left is told as a cut packet
ends : (ps : List (List ℕ)) → Tidy ps → (past : Past)
    → let r = run tell past ps in
    texts (lines_from past ps) ≡ r.sends ++ text_of (cut_line r.left.place (4 * (length (joined ps) - r.read)))
unfolding run lines_from cut_line text_of line_of screen_by drop_line
ends [] d past = refl
ends (p ∷ ps) (inr d) past =
    let n : 4 * (length (p ++ []) - 0) / 4 ≡ length p = rw (append-nil p) (omega arith) in
    rw (tell-stops past p d.0, d.1, short_none p d.0, n, ne_eqb (length p) 0 (short-some p d.0))
    (append-nil (drop_line past.place cut_packet (length p) 0))
ends (p ∷ ps) (inl d) past =
    let q = run tell (past_after past p) ps in
    let l = length-append p (joined ps) in
    let n : length (p ++ joined ps) - (length p + q.read) ≡ length (joined ps) - q.read = omega arith in
    rw (tell-goes past p d.0, packet-whole p d.0, n, ends ps d.1 (past_after past p))
    (sym (append_assoc (text_of (line_of past p)) q.sends
    (text_of (cut_line q.left.place (4 * (length (joined ps) - q.read))))))

pub proved-buffer-by-buffer : BufferByBuffer
proved-buffer-by-buffer =
    record {
      told = told;
      kept = kept;
      ends = λ s past. rw (joined-cut s) at (ends (cut s) (cut-tidy s) past);
    }
