-- A message in packets that fits ends in a chain that holds its payloads. Assumes nothing.
use Prim.Native.Nat.{ℕ, ◌+◌, ◌≤◌, ◌<◌}
use mathlib.Core.Path.{◌≡◌, refl, ap, ap₂, ◌∙◌}
use mathlib.Core.Bool.{Bool, true, false, cond}
use mathlib.Core.Logic.{◌⊎◌, ⊎_elim}
use mathlib.Core.List.{List, [], ◌∷◌, ◌++◌, append_assoc, append-nil}
use native.Mathlib.Omega.{arith}
use native.Mathlib.Nat.{zero-add}
use lib.ListN.{length, take, drop, replicate, length-append, length-drop}
use lib.Seq.{drop-append-add, drop-drop, length-take-le, paste, take-append_seam}
use lib.Dec.{eqb, ltb}
use borrow.Author.Tests.{eq-eqb, eqb-true, le-leb, le-ltb, lt-leb, lt-ltb, ne_eqb}
use Rattle.ump.specs.Packet.{first, packet}
use Rattle.ump.specs.Word.{group_of, message_type}
use Rattle.screen.specs.Screen.{goes_on}
use Rattle.piece.specs.Piece.{Fine, Piece, chain_for, exclusive, exclusive_piece, flex, flex_piece, no_chain, payload}
use Rattle.piece.specs.Piece.{complete, continued, end, piece_for, start}
use Rattle.chains.specs.Step.{base_of, grown, part_of, step_of, strays, verdict, verdict_by}
use Rattle.chains.specs.Collect.{chain_at, chain_of, part_at, piece_of, refusal_of, share}
use Rattle.chain_claims.specs.Claims.{All32, Finished, Held, Message, Middles, Piecewise, World, answers}
use Rattle.chain_claims.specs.Claims.{gathered}
use Rattle.chain_claims.specs.Claims.{held_at, holding, one, only, payloads, run, tells, told}
use Rattle.piece.proofs.PieceLaws.{piece-fine}
use Rattle.chains.proofs.CollectLaws.{part_length}
use Rattle.chain_claims.proofs.AloneLaws.{proved-alone}

pub fine : (p : List ℕ) → Fine (piece_of p)
fine p = piece-fine _ _ _ _ _

pub payload-length : (x : Piece) → Fine x → length (payload x) ≡ x.count
payload-length x f = length-take-le x.count x.bytes (omega (arith, f.few, f.places))

-- a chain that is open and holds bytes, from its part's beginning on
abbrev opened : List ℕ → ℕ → ℕ → List ℕ → Held
opened bs sh n P =
    record {
      chain = record { length = length bs; shared = sh; packets = n };
      part = bs ++ drop (length bs) P;
    }

opened-length : (bs P : List ℕ) → length bs ≤ length P → length (bs ++ drop (length bs) P) ≡ length P
opened-length bs P h = length-append bs (drop (length bs) P) ∙ omega (arith, length-drop (length bs) P)

-- bytes stored after those held
paste-on : (bs P xs : List ℕ) (c : ℕ) → c ≤ length xs → paste (bs ++ drop (length bs) P) (length bs) xs c
    ≡ (bs ++ take c xs) ++ drop (length (bs ++ take c xs)) P
paste-on bs P xs c h =
    let n : length (bs ++ take c xs) ≡ length bs + c = length-append bs (take c xs)
    ∙ omega (arith, length-take-le c xs h) in
    rw (
      take-append_seam bs (drop (length bs) P),
      drop-append-add bs (drop (length bs) P) c,
      drop-drop c (length bs) P,
      n,
    )

-- what a packet that is taken does
pub one-is : (h : Held) (p : List ℕ) (v : ℕ) → refusal_of p ≡ goes_on
    → verdict h.chain (length h.part) (piece_of p) ≡ v → v ≤ 1
    → (one h p ≡ record {
      chain = grown h.chain (piece_of p);
      part = paste h.part (base_of h.chain)
          (piece_of p).bytes (piece_of p).count;
    }) × (told h p ≡ v)
unfolding one told step_of part_of
one-is h p v e f l = rw (e, f, le-leb v 1 l) (refl, refl)

module _ (k sh : ℕ) (P : List ℕ) where
  -- a start, where none is open
  begin : (h : Held) (a : List ℕ) → h.chain.packets ≡ 0 → h.part ≡ P → Piecewise k sh start a
      → length (payload (piece_of a)) ≤ length P
      → (one h a ≡ opened (payload (piece_of a)) sh 1 P) × (told h a ≡ 1)
  unfolding verdict_by strays base_of grown
  begin h a z q s r =
      let x = piece_of a in
      let n = payload-length x (fine a) in
      let f : x.count ≤ length h.part = omega (arith, n, ap length q) in
      let v : verdict h.chain (length h.part) x ≡ 1 = rw (
        z,
        s.place,
        zero-add x.count,
        le-ltb (length h.part) x.count f,
      ) in
      let o = one-is h a 1 s.good v (omega arith) in
      (o.0 ∙ rw (z, s.place, s.same, q, n, zero-add x.count), o.1)

  -- a complete packet
  at_once : (h : Held) (a : List ℕ) → h.chain.packets ≡ 0 → h.part ≡ P → Piecewise k sh complete a
      → length (payload (piece_of a)) ≤ length P
      → (one h a ≡ holding (payload (piece_of a)) sh P) × (told h a ≡ 0)
  unfolding verdict_by strays base_of grown
  at_once h a z q s r =
      let x = piece_of a in
      let n = payload-length x (fine a) in
      let f : x.count ≤ length h.part = omega (arith, n, ap length q) in
      let v : verdict h.chain (length h.part) x ≡ 0 = rw (
        z,
        s.place,
        zero-add x.count,
        le-ltb (length h.part) x.count f,
      ) in
      let o = one-is h a 0 s.good v (omega arith) in
      (o.0 ∙ rw (z, s.place, s.same, q, n, zero-add x.count), o.1)

  -- a packet that continues, and one that ends, where one is open
  module _ (bs : List ℕ) (m : ℕ) (p : List ℕ) (some : 1 ≤ m) (few : m < 32)
      (room : length bs + length (payload (piece_of p)) ≤ length P) where
    again : Piecewise k sh continued p → (one (opened bs sh m P) p
        ≡ opened (bs ++ payload (piece_of p)) sh (m + (piece_of p).adds) P) × (told (opened bs sh m P) p ≡ 1)
    unfolding verdict_by strays base_of grown
    again s =
        let x = piece_of p in
        let n = payload-length x (fine p) in
        let c = ne_eqb m 0 (λ e. omega (arith, e)) in
        let t = eq-eqb sh sh refl in
        let f : length bs + x.count ≤ length (bs ++ drop (length bs) P) = omega (
          arith,
          n,
          opened-length bs P (omega arith),
        ) in
        let v : verdict (opened bs sh m P).chain (length (opened bs sh m P).part) x
        ≡ 1 = rw (
          c,
          s.place,
          s.same,
          t,
          lt-leb 32 m few,
          le-ltb (length (bs ++ drop (length bs) P)) (length bs + x.count) f,
        ) in
        let o = one-is (opened bs sh m P) p 1 s.good v (omega arith) in
        let l : length (bs ++ payload x) ≡ length bs + x.count = length-append bs (payload x) ∙ omega (arith, n) in (
          o.0 ∙ rw (
            c,
            s.place,
            s.same,
            paste-on bs P x.bytes x.count (omega (
              arith,
              (fine p).few,
              (fine p).places,
            )),
            l,
          ),
          o.1,
        )

    finish : Piecewise k sh end p → (one (opened bs sh m P) p ≡ holding (bs ++ payload (piece_of p)) sh P)
        × (told (opened bs sh m P) p ≡ 0)
    unfolding verdict_by strays base_of grown
    finish s =
        let x = piece_of p in
        let n = payload-length x (fine p) in
        let c = ne_eqb m 0 (λ e. omega (arith, e)) in
        let t = eq-eqb sh sh refl in
        let f : length bs + x.count ≤ length (bs ++ drop (length bs) P) = omega (
          arith,
          n,
          opened-length bs P (omega arith),
        ) in
        let v : verdict (opened bs sh m P).chain (length (opened bs sh m P).part) x
        ≡ 0 = rw (
          c,
          s.place,
          s.same,
          t,
          lt-leb 32 m few,
          le-ltb (length (bs ++ drop (length bs) P)) (length bs + x.count) f,
        ) in
        let o = one-is (opened bs sh m P) p 0 s.good v (omega arith) in
        let l : length (bs ++ payload x) ≡ length bs + x.count = length-append bs (payload x) ∙ omega (arith, n) in (
          o.0 ∙ rw (
            c,
            s.place,
            s.same,
            paste-on bs P x.bytes x.count (omega (
              arith,
              (fine p).few,
              (fine p).places,
            )),
            l,
          ),
          o.1,
        )

-- what packets add to the number of packets
added : List (List ℕ) → ℕ
added [] = 0
added (p ∷ ps) = (piece_of p).adds + added ps

-- an exclusive adds none, and Flex Data one
pub adds-is : (p : List ℕ) → chain_of p < 32 → (piece_of p).adds ≡ cond (ltb (chain_of p) 16) 0 1
unfolding chain_for piece_for exclusive_piece flex_piece
adds-is p h = go (message_type w) refl (eqb (message_type w) exclusive) refl (eqb (message_type w) flex) refl h
  where
    w : ℕ
    w = first (packet p)

    go : (n : ℕ) → message_type w ≡ n → (c : Bool) → eqb n exclusive ≡ c → (d : Bool) → eqb n flex ≡ d
        → cond c (group_of w).0 (cond d (16 + (group_of w).0) no_chain) < 32
        → (piece_of p).adds ≡ cond (ltb (cond c (group_of w).0 (cond d (16 + (group_of w).0) no_chain)) 16) 0 1
    go n e true f true g h = absurd (omega (arith, eqb-true n exclusive f, eqb-true n flex g))
    go n e true f false g h = rw (e, g, lt-ltb (group_of w).0 16 (omega arith))
    go n e false f true g h = rw (e, g, le-ltb (16 + (group_of w).0) 16 (omega arith))
    go n e false f false g h = absurd (omega arith)

adds_none : (p : List ℕ) → chain_of p < 16 → (piece_of p).adds ≡ 0
adds_none p h = adds-is p (omega arith) ∙ rw (lt-ltb (chain_of p) 16 h)

added_none : (k sh : ℕ) (ms : List (List ℕ)) → Middles k sh ms → k < 16 → added ms ≡ 0
unfolding added
added_none k sh [] h l = refl
added_none k sh (p ∷ ms) h l = omega (arith, adds_none p (rw h.0.chain l), added_none k sh ms h.1 l)

added-length : (ms : List (List ℕ)) → added ms ≤ length ms
unfolding added
added-length [] = omega arith
added-length (p ∷ ms) = omega (arith, (fine p).one, added-length ms)

added-few : (k sh : ℕ) (ms : List (List ℕ)) → Middles k sh ms → (k < 16) ⊎ (length ms + 2 ≤ 32) → added ms ≤ 30
added-few k sh ms h f = ⊎_elim (λ l. omega (arith, added_none k sh ms h l)) (λ l. omega (arith, l, added-length ms)) f

-- the packets after the first
after_first : (k sh : ℕ) (P : List ℕ) (z : List ℕ) → Piecewise k sh end z → (ms : List (List ℕ)) (bs : List ℕ) (m : ℕ)
    → Middles k sh ms → 1 ≤ m → m + added ms < 32
    → length bs + length (payloads (ms ++ z ∷ [])) ≤ length P
    → (gathered (opened bs sh m P) (ms ++ z ∷ []) ≡ holding (bs ++ payloads (ms ++ z ∷ [])) sh P)
    × (tells (opened bs sh m P) (ms ++ z ∷ []) ≡ replicate (length ms) 1 ++ 0 ∷ [])
unfolding gathered tells payloads added
after_first k sh P z e [] bs m h some few room =
    let f = finish k sh P bs m z some (omega arith) (omega (arith, length-append (payload (piece_of z)) [])) e in
    rw (append-nil (payload (piece_of z))) (f.0, ap (λ (n : ℕ). n ∷ []) f.1)
after_first k sh P z e (p ∷ ms) bs m h some few room =
    let rs = payloads (ms ++ z ∷ []) in
    let l = length-append (payload (piece_of p)) rs in
    let a = again k sh P bs m p some (omega arith) (omega arith) h.0 in
    let i = after_first k sh P z e ms (bs ++ payload (piece_of p)) (m + (piece_of p).adds) h.1 (omega arith)
    (omega arith) (omega (arith, length-append bs (payload (piece_of p)))) in (
      ap (λ (h : Held). gathered h (ms ++ z ∷ [])) a.0 ∙ i.0
          ∙ ap (λ (b : List ℕ). holding b sh P) (append_assoc bs (payload (piece_of p)) rs),
      ap₂ ◌∷◌ a.1 (ap (λ (h : Held). tells h (ms ++ z ∷ [])) a.0 ∙ i.1),
    )

-- one packet alone
single : (h : Held) (a : List ℕ) → (gathered h (a ∷ []) ≡ one h a) × (tells h (a ∷ []) ≡ told h a ∷ [])
unfolding gathered tells
single h a = (refl, refl)

-- a whole message, where none is open
whole : (k : ℕ) (h : Held) (a : List ℕ) (ms : List (List ℕ)) (z : List ℕ) → h.chain.packets ≡ 0
    → Message k (length h.part) a ms z
    → (gathered h (a ∷ ms ++ z ∷ []) ≡ holding (payloads (a ∷ ms ++ z ∷ [])) (piece_of a).shared h.part)
    × (tells h (a ∷ ms ++ z ∷ []) ≡ 1 ∷ replicate (length ms) 1 ++ 0 ∷ [])
unfolding gathered tells payloads
whole k h a ms z c g =
    let sh = (piece_of a).shared in
    let rs = payloads (ms ++ z ∷ []) in
    let l = length-append (payload (piece_of a)) rs in
    let r = g.fits in
    let b = begin k sh h.part h a c refl g.first (omega arith) in
    let n : 1 + added ms < 32 = omega (arith, added-few k sh ms g.middle g.few) in
    let i = after_first k sh h.part z g.last ms (payload (piece_of a)) 1 g.middle
    (omega arith) n (omega arith) in (
      ap (λ (x : Held). gathered x (ms ++ z ∷ [])) b.0 ∙ i.0,
      ap₂ ◌∷◌ b.1 (ap (λ (x : Held). tells x (ms ++ z ∷ [])) b.0 ∙ i.1),
    )

pub proved-finished : Finished
proved-finished = record { rows = rows; at_once = at-once-alone }
  where
    rows : (k : ℕ) (w : World) (ps : List (List ℕ)) (a : List ℕ) (ms : List (List ℕ)) (z : List ℕ) → k < 32 → All32 w
        → (chain_at k w.chains).packets ≡ 0
        → only k ps ≡ a ∷ ms ++ z ∷ [] → Message k (share w.buffer) a ms z
        → (held_at k (run w ps) ≡ holding (payloads (only k ps)) (piece_of a).shared (part_at k w.buffer))
        × (answers k w ps ≡ 1 ∷ replicate (length ms) 1 ++ 0 ∷ [])
    rows k w ps a ms z low full c e g =
        let x = proved-alone k w ps low full in
        let y = whole k (held_at k w) a ms z c (rw (part_length k w.buffer low) g) in
        (x.1 ∙ rw e y.0, x.2 ∙ rw e y.1)

    at-once-alone : (k : ℕ) (w : World) (ps : List (List ℕ)) (a : List ℕ) → k < 32 → All32 w
        → (chain_at k w.chains).packets ≡ 0
        → only k ps ≡ a ∷ [] → Piecewise k (piece_of a).shared complete a
        → length (payload (piece_of a)) ≤ share w.buffer
        → (held_at k (run w ps) ≡ holding (payload (piece_of a)) (piece_of a).shared (part_at k w.buffer))
        × (answers k w ps ≡ 0 ∷ [])
    at-once-alone k w ps a low full c e g r =
        let x = proved-alone k w ps low full in
        let y = at_once k (piece_of a).shared (part_at k w.buffer)
        (held_at k w) a c refl g (rw (part_length k w.buffer low) r) in (
          x.1 ∙ rw e ((single (held_at k w) a).0 ∙ y.0),
          x.2 ∙ rw e ((single (held_at k w) a).1
              ∙ ap (λ (n : ℕ). n ∷ []) y.1),
        )
