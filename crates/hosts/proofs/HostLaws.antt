-- Who owns a group, as the bit of a rule: the fence of a host lies around its groups. Assumes nothing.
use Prim.Native.Nat.{ℕ, zero, suc, ◌+◌, ◌*◌, ◌%◌, ◌<◌, ◌≤◌, ◌^◌}
use mathlib.Core.Path.{◌≡◌, sym, ap, ◌∙◌}
use mathlib.Core.Bool.{Bool, false, not, ◌&&◌}
use mathlib.Core.List.{List}
use native.Mathlib.Omega.{arith}
use native.Mathlib.Nat.{one-mul}
use lib.Dec.{eqb}
use lib.Pow.{shl_exact}
use borrow.Author.Tests.{eqb-false, eqb-true}
use Rattle.ground.proofs.Cases.{by_bool, choose}
use Rattle.ump.specs.Word.{group_of, message_type}
use Rattle.keys.specs.Keys.{bit}
use Rattle.keys.proofs.Bit.{at_zero, with-other, with-same}
use Rattle.screen.specs.Screen.{grouped, outside}
use Rattle.hosts.specs.Hosts.{groups_below, host_rule, owns, with_group}

-- one shifted to a group's place
pub one_shl : (k : ℕ) → k < 16 → 1 * 2 ^ k % 2 ^ 32 ≡ 2 ^ k
one_shl k h = shl_exact {a = 1} 1 k 32 (omega arith) (omega arith) ∙ one-mul (2 ^ k)

-- the groups with one more
pub next-group : (host : ℕ) (owners : List ℕ) (n groups r : ℕ) (mine : Bool) → groups ≡ groups_below host owners n
    → mine ≡ owns host owners n → r ≡ with_group groups n mine → r ≡ groups_below host owners (n + 1)
unfolding groups_below
next-group host owners n groups r mine e m f =
    let one : n + 1 ≡ suc n = omega arith in
    f ∙ ap (λ (b : Bool). with_group groups n b) m ∙ ap (λ (x : ℕ). with_group x n (owns host owners n)) e
    ∙ sym (ap (groups_below host owners) one)

-- no bit from n on is set
none_above : (host : ℕ) (owners : List ℕ) (n g : ℕ) → n ≤ g → bit (groups_below host owners n) g ≡ false
unfolding groups_below bit
none_above host owners zero g h = ap (λ (x : ℕ). eqb x 1) (at_zero g)
none_above host owners (suc n) g h =
    choose (λ (x : ℕ). bit x g ≡ false) (owns host owners n)
    (λ _. with-other (groups_below host owners n) n g (λ e. omega (arith, e))
    ∙ none_above host owners n g (omega arith))
    (λ _. none_above host owners n g (omega arith))

-- below n the bits are the groups that the host owns
pub bit_below : (host : ℕ) (owners : List ℕ) (n g : ℕ) → g < n → bit (groups_below host owners n) g ≡ owns host owners g
unfolding groups_below
bit_below host owners zero g h = absurd (omega arith)
bit_below host owners (suc n) g h =
    let G = groups_below host owners n in
    by_bool (eqb g n)
    (λ e. let q = eqb-true g n e in
    by_bool (owns host owners n) (λ o. rw (q, o) (with-same G n))
    (λ o. rw (q, o) (none_above host owners n n (omega arith))))
    (λ e. let q = eqb-false g n e in
    let ih = bit_below host owners n g (omega (arith, q)) in
    choose (λ (x : ℕ). bit x g ≡ owns host owners g) (owns host owners n) (λ _. with-other G n g q ∙ ih) (λ _. ih))

-- the packets of a host's own groups pass its fence, and those without a group
pub fence : (host : ℕ) (owners : List ℕ) (w : ℕ)
    → outside (host_rule host owners) w ≡ (grouped (message_type w) && not (owns host owners (group_of w).0))
unfolding outside host_rule bit
fence host owners w = ap (λ (b : Bool). grouped (message_type w) && not b)
    (bit_below host owners 16 (group_of w).0 (omega arith))
