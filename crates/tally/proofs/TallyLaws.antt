-- Counting: one more of a sort is a longer list of them, and no count is above the number of calls. And the loop that
-- counts: the sorts of the packets before a place are counted, and those from there on are left. Assumes nothing.
use Rattle.std.proofs.Common.{◌≡◌, ℕ, zero, suc, ◌+◌, ◌%◌, ◌^◌, ◌<◌, ◌≤◌, cond, eqb, List, [], ◌∷◌, ◌++◌, map, length}
use Rattle.std.proofs.Common.{get_or, take, drop, set, replicate, sym, refl, ap, ◌∙◌, subst, append_assoc, append-nil}
use Rattle.std.proofs.Common.{add-zero, add_assoc, zero-add, arith, length-append, drop-cons, eq-eqb, ne_eqb, le-leb}
use Rattle.ground.proofs.Cases.{choose}
use Rattle.ump.specs.Packet.{cut, packet, size}
use Rattle.ump.proofs.PacketLaws.{cut_at, cut-end, packet-four, size-range}
use Rattle.stream.specs.declared.Done.{Done}
use Rattle.stream.specs.Answers.{sent}
use Rattle.stream.specs.Call.{Call, answer_of, fit, sent_of, stopped, went}
use Rattle.stream.specs.Report.{counting, place_told}
use Rattle.screen.specs.Screen.{open_rule}
use Rattle.voice.specs.Packet.{call_down_by, packet_down}
use Rattle.voice.specs.Turn.{report_of}
use Rattle.voice.proofs.PacketLaws.{few-down}
use Rattle.tally.specs.Tally.{all_sorts, counted, from, sort_down, sort_of, tally, tally_by, times}

times-after : (n : ℕ) (xs : List ℕ) (a : ℕ) → times n (xs ++ (a ∷ [])) ≡ times n xs + cond (eqb a n) 1 0
unfolding times
times-after n [] a = omega arith
times-after n (x ∷ xs) a = rw (times-after n xs a)
    (sym (add_assoc (cond (eqb x n) 1 0) (times n xs) (cond (eqb a n) 1 0)))

times-most : (n : ℕ) (xs : List ℕ) → times n xs ≤ length xs
unfolding times
times-most n [] = omega arith
times-most n (x ∷ xs) =
    choose (λ (k : ℕ). k + times n xs ≤ length (x ∷ xs)) (eqb x n) (λ _. omega (arith, times-most n xs))
    (λ _. omega (arith, times-most n xs))

-- no count is above the number of calls
map-most : (f : ℕ → ℕ) (b : ℕ) → ((n : ℕ) → f n ≤ b) → (l : List ℕ) (j : ℕ) → get_or (map f l) j 0 ≤ b
map-most f b h [] j = omega arith
map-most f b h (x ∷ l) zero = h x
map-most f b h (x ∷ l) (suc j) = map-most f b h l j

tally-most : (xs : List ℕ) (a : ℕ) → get_or (tally xs) a 0 ≤ length xs
unfolding tally
tally-most xs a = map-most (λ n. times n xs) (length xs) (λ n. times-most n xs) (from 0 all_sorts) a

-- one more among the counts of consecutive numbers
past : (f : ℕ → ℕ) (a k n : ℕ) → a < k → map (λ (m : ℕ). f m + cond (eqb a m) 1 0) (from k n) ≡ map f (from k n)
unfolding from
past f a k zero h = refl
past f a k (suc n) h = rw (ne_eqb a k (λ e. omega (arith, h, e)), add-zero (f k), past f a (suc k) n (omega arith))

one_more : (f : ℕ → ℕ) (i k n : ℕ)
    → set (map f (from k n)) i (get_or (map f (from k n)) i 0 + 1)
    ≡ map (λ (m : ℕ). f m + cond (eqb (k + i) m) 1 0) (from k n)
unfolding from
one_more f zero k zero = refl
one_more f (suc i) k zero = refl
one_more f zero k (suc n) =
    subst (λ (a : ℕ). (f k + 1) ∷ map f (from (suc k) n)
    ≡ map (λ (m : ℕ). f m + cond (eqb a m) 1 0) (k ∷ from (suc k) n))
    (sym (add-zero k)) (rw (eq-eqb k k refl, past f k (suc k) n (omega arith)))
one_more f (suc i) k (suc n) =
    let e : suc k + i ≡ k + suc i = omega arith in
    subst (λ (a : ℕ). f k ∷ set (map f (from (suc k) n)) i (get_or (map f (from (suc k) n)) i 0 + 1)
    ≡ map (λ (m : ℕ). f m + cond (eqb a m) 1 0) (k ∷ from (suc k) n)) e
    (rw (ne_eqb (suc k + i) k (λ q. omega (arith, q)), add-zero (f k), one_more f i (suc k) n))

tally-more : (xs : List ℕ) (a : ℕ) → set (tally xs) a (get_or (tally xs) a 0 + 1) ≡ tally (xs ++ (a ∷ []))
unfolding tally
tally-more xs a =
    simp times-after
    (subst (λ (b : ℕ). set (tally xs) a (get_or (tally xs) a 0 + 1)
    ≡ map (λ (m : ℕ). times m xs + cond (eqb b m) 1 0) (from 0 all_sorts))
    (zero-add a) (one_more (λ (n : ℕ). times n xs) a 0 all_sorts))

-- before the first call nothing was counted, and a count that is not full has one more after it
pub tally-none : replicate all_sorts 0 ≡ tally []
unfolding tally times from
tally-none = refl

pub tally-counted : (xs : List ℕ) (a : ℕ) → length xs + 1 < 2 ^ 64 → counted (tally xs) a ≡ tally (xs ++ (a ∷ []))
tally-counted xs a h =
    let e : (get_or (tally xs) a 0 + 1) % 2 ^ 64 ≡ get_or (tally xs) a 0 + 1 = omega (arith, tally-most xs a) in
    rw e (tally-more xs a)

-- four words are room for whatever a packet becomes
four-fit : (c : Call (Unit {0})) → length (sent_of c) ≤ 4 → answer_of (fit 4 c) ≡ answer_of c
four-fit (went a ws u) h = rw (le-leb (length ws) 4 h)
four-fit (stopped a) h = refl

pub down-sort : (ws : List ℕ) (i : ℕ) (r : Done)
    → r ≡ report_of (counting sent i 0) (packet (drop i ws)) (replicate 4 0) (packet_down (packet (drop i ws)))
    → sort_of r.answer r.place ≡ sort_down (drop i ws)
unfolding call_down_by
down-sort ws i r f =
    let p = packet (drop i ws) in
    ap (λ (x : Done). sort_of x.answer x.place) f
    ∙ ap (λ (a : ℕ). sort_of a (place_told a p)) (four-fit (packet_down p)
    (few-down open_rule p (packet-four (drop i ws))))

module _ (sort : List ℕ → ℕ) (ws : List ℕ) where
  abbrev rest : ℕ → List ℕ
  rest i = map sort (cut (drop i ws))

  -- the loop's invariant
  pub record Counts (counts : List ℕ) (i : ℕ) : Type 0 where
    pub before : List ℕ
    pub few : length before ≤ i
    pub all : map sort (cut ws) ≡ before ++ rest i
    pub are : counts ≡ tally before

  pub counts_start : (counts : List ℕ) → counts ≡ tally [] → Counts counts 0
  counts_start counts none = record { before = []; few = omega arith; all = refl; are = none }

  pub counts-more : (counts : List ℕ) (i : ℕ) → Counts counts i → i < length ws → length ws < 2 ^ 64
      → ((w : ℕ) (s : List ℕ) → sort (take (size w) (w ∷ s)) ≡ sort (w ∷ s))
      → (a : ℕ) → a ≡ sort (drop i ws) → Counts (counted counts a) (i + size (get_or ws i 0))
  counts-more counts i c h fits near a e =
      let l = i + size (get_or ws i 0) in
      let own : sort (take (size (get_or ws i 0)) (drop i ws)) ≡ a =
      rw (e, drop-cons ws i 0 h) (near (get_or ws i 0) (drop (suc i) ws)) in
      let step : rest i ≡ a ∷ rest l = ap (map sort) (cut_at ws i h) ∙ rw own in
      record {
        before = c.before ++ (a ∷ []);
        few = omega (arith, length-append c.before (a ∷ []), c.few, size-range (get_or ws i 0));
        all = c.all ∙ rw (step, append_assoc c.before (a ∷ []) (rest l));
        are = rw c.are (tally-counted c.before a (omega (arith, c.few)));
      }

  pub counts_end : (counts : List ℕ) (i : ℕ) → Counts counts i → length ws ≤ i → counts ≡ tally_by sort ws
  unfolding tally_by
  counts_end counts i c h = c.are ∙ ap tally (sym (c.all ∙ rw (cut-end ws i h, append-nil c.before)))
