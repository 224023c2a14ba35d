-- A whole exclusive out and in again: its data bytes go in one by one, and come out in sixes. Assumes nothing.
use mathlib.Core.Path.{◌≡◌, refl, ◌∙◌}
use mathlib.Core.Bool.{Bool, true, false, cond, ◌||◌}
use mathlib.Core.List.{List, [], ◌∷◌, ◌++◌, append_assoc, append-nil, map}
use Prim.Native.Nat.{ℕ, zero, suc, ◌+◌, ◌*◌, ◌≤◌, ◌<◌, ◌%◌, ◌^◌}
use native.Mathlib.Omega.{arith}
use native.Mathlib.Nat.{add-zero, mod-eq_of_lt}
use lib.Dec.{eqb, leb, ltb}
use lib.ListN.{get_or, length, length-append, length-take, take}
use borrow.Author.Tests.{eq-eqb, le-leb, le-ltb, lt-leb, lt-ltb, ltb-false, ltb-true}
use Rattle.ground.specs.Lists.{All, joined}
use Rattle.ump.specs.Word.{byte1, byte2, byte3, byte4, count, group_of, message_type, status}
use Rattle.ump.specs.Packet.{Whole as WholePacket, cut, first, second, size}
use Rattle.ump.proofs.PacketLaws.{cut-whole}
use Rattle.fields.specs.Check.{bad_place, checked_fields, exclusive_fields, good_status, seven}
use Rattle.stream.specs.Answers.{sent}
use Rattle.stream.specs.Claims.{roomed}
use Rattle.screen.specs.Screen.{goes_on}
use Rattle.cable.specs.declared.Cable.{Cable}
use Rattle.cable.specs.State.{exclusive, idle, packet_of, pick, places, pushed, sound}
use Rattle.cable.specs.Hearing.{byte_in, data_in, end_in, exclusive_in, last_form, more_form, sending, status_in, takes}
use Rattle.cable.proofs.Ways.{pick-false}
use Rattle.inlet.specs.Inlet.{calls_in, run_in}
use Rattle.outlet.specs.Outlet.{amount, bytes_of, payload, run_out, screen_out, six}
use Rattle.cable_claims.specs.Words.{Fine, whole_in}
use Rattle.cable_claims.specs.ExclusiveReturns.{ExclusiveReturns, Part, Whole, payloads}
use Rattle.cable_claims.proofs.InRuns.{goes, goes-fine, none_left, run-whole, whole-answer, whole_room}
use Rattle.cable_claims.proofs.OutRuns.{cut-none, gives, gives_none, whole_out}
use Rattle.cable_claims.proofs.OutRuns as Out

-- data bytes
abbrev Small : List ℕ → Type 0
Small = All (λ (x : ℕ). x ≤ 127)

small_at : (hs : List ℕ) → Small hs → (k : ℕ) → get_or hs k 0 ≤ 127
small_at [] h k = omega arith
small_at (x ∷ xs) h zero = h.0
small_at (x ∷ xs) h (suc k) = small_at xs h.1 k

small-both : (xs ys : List ℕ) → Small xs → Small ys → Small (xs ++ ys)
small-both [] ys h k = k
small-both (x ∷ xs) ys h k = (h.0, small-both xs ys h.1 k)

-- one more byte held
pushed-held : (begun d : ℕ) (hs : List ℕ) → length hs < 6
    → pushed d (exclusive begun hs) ≡ exclusive begun (hs ++ (d ∷ []))
pushed-held t z [] l = refl
pushed-held t z (a ∷ []) l = refl
pushed-held t z (a ∷ b ∷ []) l = refl
pushed-held t z (a ∷ b ∷ c ∷ []) l = refl
pushed-held t z (a ∷ b ∷ c ∷ d ∷ []) l = refl
pushed-held t z (a ∷ b ∷ c ∷ d ∷ x ∷ []) l = refl
pushed-held t z (a ∷ b ∷ c ∷ d ∷ x ∷ y ∷ hs) l = absurd (omega arith)

-- what is held is read back from its places
held_back : (hs : List ℕ) → length hs ≤ 6 → take (length hs) (places hs) ≡ hs
held_back [] l = refl
held_back (a ∷ []) l = refl
held_back (a ∷ b ∷ []) l = refl
held_back (a ∷ b ∷ c ∷ []) l = refl
held_back (a ∷ b ∷ c ∷ d ∷ []) l = refl
held_back (a ∷ b ∷ c ∷ d ∷ x ∷ []) l = refl
held_back (a ∷ b ∷ c ∷ d ∷ x ∷ y ∷ []) l = refl
held_back (a ∷ b ∷ c ∷ d ∷ x ∷ y ∷ z ∷ hs) l = absurd (omega arith)

-- the fields of a packet's words
module _ (g form n a b : ℕ) (hg : g ≤ 15) (hf : form ≤ 3) (hn : n ≤ 6) (ha : a ≤ 127) (hb : b ≤ 127) where
  abbrev head : ℕ
  head = 0x30000000 + g * 2 ^ 24 + form * 2 ^ 20 + n * 2 ^ 16 + a * 2 ^ 8 + b

  head-kind : message_type head ≡ 3
  head-kind = omega arith

  head-group : (group_of head).0 ≡ g
  head-group = omega arith

  head-form : status head ≡ form
  head-form = omega arith

  head-count : count head ≡ n
  head-count = omega arith

  head-a : byte3 head ≡ a
  head-a = omega arith

  head-b : byte4 head ≡ b
  head-b = omega arith

module _ (c d e f : ℕ) (hc : c ≤ 127) (hd : d ≤ 127) (he : e ≤ 127) (hf : f ≤ 127) where
  abbrev tail : ℕ
  tail = c * 2 ^ 24 + d * 2 ^ 16 + e * 2 ^ 8 + f

  tail-c : byte1 tail ≡ c
  tail-c = omega arith

  tail-d : byte2 tail ≡ d
  tail-d = omega arith

  tail-e : byte3 tail ≡ e
  tail-e = omega arith

  tail-f : byte4 tail ≡ f
  tail-f = omega arith

-- the packet of what is held: a part of an exclusive, with those bytes as its payload
module _ (g form begun : ℕ) (hs : List ℕ) (few : g ≤ 15) (hf : form ≤ 3) (h : Small hs) (l : length hs ≤ 6) where
  abbrev made : List ℕ
  made = packet_of g form (exclusive begun hs)

  low-group : g % 16 ≡ g
  low-group = mod-eq_of_lt {n = g} {m = 16} (omega arith)

  payload-held : payload (first made) (second made) ≡ hs
  unfolding payload amount
  payload-held =
      let a = small_at hs h 0 in
      let b = small_at hs h 1 in
      let c = small_at hs h 2 in
      let d = small_at hs h 3 in
      let e = small_at hs h 4 in
      let f = small_at hs h 5 in
      rw (
        low-group,
        head-kind g form (length hs) _ _ few hf l a b,
        head-count g form (length hs) _ _ few hf l a b,
        head-a g form (length hs) _ _ few hf l a b,
        head-b g form (length hs) _ _ few hf l a b,
        tail-c _ _ _ _ c d e f,
        tail-d _ _ _ _ c d e f,
        tail-e _ _ _ _ c d e f,
        tail-f _ _ _ _ c d e f,
      )
      (held_back hs l)

  part_held : Part g form made
  part_held =
      let a = small_at hs h 0 in
      let b = small_at hs h 1 in
      record {
        two = refl;
        kind = rw low-group (head-kind g form (length hs) _ _ few hf l a b);
        group = rw low-group (head-group g form (length hs) _ _ few hf l a b);
        shape = rw low-group (head-form g form (length hs) _ _ few hf l a b);
        few = rw (low-group, head-count g form (length hs) _ _ few hf l a b) l;
        small = rw payload-held h;
      }

-- the calls of an open exclusive
module _ (g begun : ℕ) (hs : List ℕ) where
  more-in : (d : ℕ) → d ≤ 127 → length hs < 6
      → byte_in (exclusive begun hs) g d ≡ takes (exclusive begun (hs ++ (d ∷ [])))
  unfolding byte_in data_in exclusive_in pick
  more-in d k m =
      rw (lt-leb 0xF8 d (omega arith), lt-ltb d 0x80 (omega arith), lt-ltb (length hs) 6 m, pushed-held begun d hs m)

  full-in : (d : ℕ) → d ≤ 127 → 6 ≤ length hs
      → byte_in (exclusive begun hs) g d
      ≡ sending (packet_of g (more_form begun) (exclusive begun hs)) (exclusive 1 (d ∷ []))
  unfolding byte_in data_in exclusive_in pick
  full-in d k m = rw (lt-leb 0xF8 d (omega arith), lt-ltb d 0x80 (omega arith), le-ltb (length hs) 6 m)

  end-in : byte_in (exclusive begun hs) g 0xF7 ≡ sending (packet_of g (last_form begun) (exclusive begun hs)) (idle 0)
  unfolding byte_in end_in pick
  end-in = refl

start-in : (g : ℕ) → byte_in (idle 0) g 0xF0 ≡ takes (exclusive 0 [])
unfolding byte_in status_in pick
start-in g = refl

last-form : (t : Bool) → cond t 0 3 ≤ 3
last-form true = omega arith
last-form false = omega arith

more-form : (t : Bool) → cond t 1 2 ≤ 3
more-form true = omega arith
more-form false = omega arith

-- a part is a whole packet, which is cut off as it stands
part-whole : (g form : ℕ) (p : List ℕ) → Part g form p → WholePacket p
unfolding WholePacket size
part-whole g form [] a = absurd (omega (arith, a.two))
part-whole g form (w ∷ s) a = rw a.kind a.two

cut-part : (g form : ℕ) (p ws : List ℕ) → Part g form p → cut (p ++ ws) ≡ p ∷ cut ws
cut-part g form p ws a = cut-whole p ws (part-whole g form p a)

whole-more : (g begun : ℕ) (p : List ℕ) (ps : List (List ℕ)) → Part g (more_form begun) p → Whole g 1 ps
    → Whole g begun (p ∷ ps)
unfolding Whole
whole-more g begun p [] a b = absurd b
whole-more g begun p (q ∷ ps) a b = (a, b)

-- an exclusive came in: its packets, their payloads, no refusal, and nothing is open
record Came (g begun : ℕ) (ds : List ℕ) (s : Cable) (bs : List ℕ) : Type 0 where
  pub joins : payloads (cut (whole_in g s bs).sends) ≡ ds
  pub whole : Whole g begun (cut (whole_in g s bs).sends)
  pub fine : Fine g s bs
  pub left : (whole_in g s bs).left ≡ idle 0

abbrev Later : ℕ → List ℕ → Type 0
Later g ds = (begun : ℕ) (hs : List ℕ) → begun ≤ 1 → Small hs → length hs ≤ 6
    → Came g begun (hs ++ ds) (exclusive begun hs) (ds ++ (0xF7 ∷ []))

-- one data byte, and then what more of them do
module _
    (g d : ℕ) (ds : List ℕ) (few : g ≤ 15) (hd : d ≤ 127) (rest : Later g ds) (begun : ℕ) (hs : List ℕ)
    (hb : begun ≤ 1) (h : Small hs) (l : length hs ≤ 6)
  where
    abbrev bs : List ℕ
    bs = ds ++ (0xF7 ∷ [])

    one_more : (t : Bool) → ltb (length hs) 6 ≡ t → Came g begun (hs ++ (d ∷ ds)) (exclusive begun hs) (d ∷ bs)
    unfolding payloads
    one_more true e =
        let m = ltb-true (length hs) 6 e in
        let c = more-in g begun hs d hd m in
        let r = rest begun (hs ++ (d ∷ [])) hb (small-both hs (d ∷ []) h (hd, tt)) (simp length-append (omega arith)) in
        let k = goes g (exclusive begun hs) d bs _ c refl in
        record {
          joins = rw k (r.joins ∙ append_assoc hs (d ∷ []) ds);
          whole = rw k r.whole;
          fine = goes-fine g (exclusive begun hs) d bs _ c refl (omega arith) r.fine;
          left = rw k r.left;
        }
    one_more false e =
        let m = ltb-false (length hs) 6 e in
        let c = full-in g begun hs d hd m in
        let r = rest 1 (d ∷ []) (omega arith) (hd, tt) (omega arith) in
        let k = goes g (exclusive begun hs) d bs _ c refl in
        let p = packet_of g (more_form begun) (exclusive begun hs) in
        let a = part_held g (more_form begun) begun hs few (more-form (eqb begun 0)) h l in
        let ws = (whole_in g (exclusive 1 (d ∷ [])) bs).sends in
        let x = cut-part g (more_form begun) p ws a in
        record {
          joins = rw (k, x, payload-held g (more_form begun) begun hs few (more-form (eqb begun 0)) h l, r.joins);
          whole = rw (k, x) (whole-more g begun p (cut ws) a r.whole);
          fine = goes-fine g (exclusive begun hs) d bs _ c refl (omega arith) r.fine;
          left = rw k r.left;
        }

-- the end, with so many bytes held
closed : (g : ℕ) → g ≤ 15 → (begun : ℕ) (hs : List ℕ) → Small hs → length hs ≤ 6
    → Came g begun (hs ++ []) (exclusive begun hs) (0xF7 ∷ [])
unfolding payloads Whole
closed g few begun hs h l =
    let c = end-in g begun hs in
    let k = goes g (exclusive begun hs) 0xF7 [] _ c refl in
    let n = none_left g (idle 0) in
    let f = last-form (eqb begun 0) in
    let p = packet_of g (last_form begun) (exclusive begun hs) in
    let a = part_held g (last_form begun) begun hs few f h l in
    let x = cut-part g (last_form begun) p [] a in
    record {
      joins = rw (k, n.0, x, cut-none, payload-held g (last_form begun) begun hs few f h l);
      whole = rw (k, n.0, x, cut-none) a;
      fine = goes-fine g (exclusive begun hs) 0xF7 [] _ c refl (omega arith) n.1;
      left = rw (k, n.0);
    }

-- data bytes and the end: all of them come out, in order
came : (g : ℕ) → g ≤ 15 → (ds : List ℕ) → Small ds → Later g ds
came g few [] s begun hs hb h l = closed g few begun hs h l
came g few (d ∷ ds) s begun hs hb h l =
    one_more g d ds few s.0 (λ t us. came g few ds s.1 t us) begun hs hb h l (ltb (length hs) 6) refl

-- what export makes of a part
small-good : (xs : List ℕ) → Small xs → bad_place (map seven xs) ≡ 0
unfolding bad_place
small-good [] h = refl
small-good (x ∷ xs) h = rw (le-leb x 127 h.0, small-good xs h.1)

abbrev lead : ℕ → List ℕ
lead begun = pick (eqb begun 0) (0xF0 ∷ []) []

module _ (g form : ℕ) (p : List ℕ) (few : g ≤ 15) (hf : form ≤ 3) (a : Part g form p) where
  abbrev w : ℕ
  w = first p

  abbrev v : ℕ
  v = second p

  same-payload : payload w v ≡ take (count w) (six w v)
  unfolding payload amount
  same-payload = rw a.kind

  good-fields : bad_place (exclusive_fields w v) ≡ 0
  unfolding exclusive_fields bad_place
  good-fields = rw (le-leb (count w) 6 a.few, small-good (take (count w) (six w v)) (rw same-payload at a.small))

  passes : (screen_out g p).answer ≡ goes_on
  unfolding screen_out good_status checked_fields
  passes = rw (a.two, a.kind, a.group, eq-eqb g g refl, a.shape, le-leb form 3 hf, good-fields)

  bytes-part : bytes_of w v
      ≡ pick (leb form 1) (0xF0 ∷ []) [] ++ payload w v ++ pick (eqb form 0 || eqb form 3) (0xF7 ∷ []) []
  unfolding bytes_of
  bytes-part = rw (a.kind, a.shape)

  payload-most : length (payload w v) ≤ 6
  payload-most = rw same-payload (omega (arith, length-take (count w) (six w v)))

bytes-last : (g begun : ℕ) (p : List ℕ) → g ≤ 15 → begun ≤ 1 → Part g (last_form begun) p
    → bytes_of (first p) (second p) ≡ lead begun ++ payload (first p) (second p) ++ (0xF7 ∷ [])
unfolding pick
bytes-last g zero p few h a = bytes-part g 0 p few (omega arith) a
bytes-last g (suc zero) p few h a = bytes-part g 3 p few (omega arith) a
bytes-last g (suc (suc n)) p few h a = absurd (omega arith)

bytes-more : (g begun : ℕ) (p : List ℕ) → g ≤ 15 → begun ≤ 1 → Part g (more_form begun) p
    → bytes_of (first p) (second p) ≡ lead begun ++ payload (first p) (second p)
unfolding pick
bytes-more g zero p few h a = bytes-part g 1 p few (omega arith) a ∙ rw (append-nil (payload (first p) (second p)))
bytes-more g (suc zero) p few h a = bytes-part g 2 p few (omega arith) a
    ∙ rw (append-nil (payload (first p) (second p)))
bytes-more g (suc (suc n)) p few h a = absurd (omega arith)

-- a whole exclusive goes out as F0, its payloads and F7
record Gone (g begun : ℕ) (ps : List (List ℕ)) : Type 0 where
  pub bytes : whole_out g (joined ps)
      ≡ record { answer = sent; read = length (joined ps); sends = lead begun ++ payloads ps ++ (0xF7 ∷ []); left = tt }
  pub small : Small (payloads ps)
  pub most : length (payloads ps) ≤ 6 * length ps
  pub some : 1 ≤ length ps

gone : (g begun : ℕ) (ps : List (List ℕ)) → g ≤ 15 → begun ≤ 1 → Whole g begun ps → Gone g begun ps
unfolding payloads Whole
gone g begun [] few hb a = absurd a
gone g begun (p ∷ []) few hb a =
    let f = last-form (eqb begun 0) in
    record {
      bytes = gives g p [] (part-whole g (last_form begun) p a) (passes g (last_form begun) p few f a)
          ∙ rw (
            gives_none g,
            bytes-last g begun p few hb a,
            append-nil (payload (first p) (second p)),
            append-nil p,
            add-zero (length p),
          )
          (simp (append-nil, append_assoc));
      small = rw (append-nil (payload (first p) (second p))) a.small;
      most = rw (append-nil (payload (first p) (second p))) (payload-most g (last_form begun) p few f a);
      some = omega arith;
    }
gone g begun (p ∷ q ∷ ps) few hb a =
    let f = more-form (eqb begun 0) in
    let r = gone g 1 (q ∷ ps) few (omega arith) a.1 in
    let x = payload (first p) (second p) in
    record {
      bytes = gives g p (joined (q ∷ ps)) (part-whole g (more_form begun) p a.0)
          (passes g (more_form begun) p few f a.0)
          ∙ rw (r.bytes, bytes-more g begun p few hb a.0, length-append p (joined (q ∷ ps)))
          (simp (pick-false, append_assoc));
      small = small-both x (payloads (q ∷ ps)) a.0.small r.small;
      most = omega (arith, length-append x (payloads (q ∷ ps)), payload-most g (more_form begun) p few f a.0, r.most);
      some = omega arith;
    }

-- F0 and then the data bytes, from a fresh cable
begun-with : (g : ℕ) (ds bs : List ℕ) → Came g 0 ds (exclusive 0 []) bs → Came g 0 ds (idle 0) (0xF0 ∷ bs)
begun-with g ds bs r =
    let c = start-in g in
    let k = goes g (idle 0) 0xF0 bs _ c refl in
    record {
      joins = rw k r.joins;
      whole = rw k r.whole;
      fine = goes-fine g (idle 0) 0xF0 bs _ c refl (omega arith) r.fine;
      left = rw k r.left;
    }

module _ (g room : ℕ) (ps : List (List ℕ)) (few : g ≤ 15) (a : Whole g 0 ps) (h : 8 * length ps ≤ room) where
  abbrev bytes : List ℕ
  bytes = 0xF0 ∷ payloads ps ++ (0xF7 ∷ [])

  exported : run_out g room (joined ps)
      ≡ roomed room (record { answer = sent; read = length (joined ps); sends = bytes; left = tt })
  unfolding pick
  exported =
      let r = gone g 0 ps few (omega arith) a in
      let m = length-append (payloads ps) (0xF7 ∷ []) in
      Out.run-whole g room (joined ps) few (rw r.bytes (omega (arith, r.most, r.some, m))) ∙ rw r.bytes

  imported : (space : ℕ) → 2 * length bytes ≤ space
      → let r = run_in g space (idle 0) bytes in
      (r.answer ≡ sent) × (r.left ≡ idle 0) × Whole g 0 (cut r.sends) × (payloads (cut r.sends) ≡ payloads ps)
      × Fine g (idle 0) bytes
  unfolding sound
  imported space k =
      let r = gone g 0 ps few (omega arith) a in
      let t = begun-with g (payloads ps) _ (came g few (payloads ps) r.small 0 [] (omega arith) tt (omega arith)) in
      let e = run-whole g space (idle 0) bytes few refl (omega (arith, whole_room g (idle 0) bytes)) in
      (rw e (whole-answer (calls_in g (idle 0) bytes) (idle 0)), rw e t.left, rw e t.whole, rw e t.joins, t.fine)

pub proved-exclusive : ExclusiveReturns
proved-exclusive =
    record {
      exports = λ g room ps few a h. let e = exported g room ps few a h in (rw e, rw e);
      returns = λ g room space ps few a h. rw (exported g room ps few a h) (imported g room ps few a h space);
    }
