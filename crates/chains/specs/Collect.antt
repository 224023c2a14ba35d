-- One packet into the list of all 32 chains and the buffer (RULES 14; 02 M-106 "Exclusives and text in one piece"):
-- what it is answered with, and that it goes to its own chain and its own part. A call is given the words from the
-- packet's first on.
use Rattle.std.specs.Prelude.{ℕ, ◌+◌, ◌*◌, ◌/◌, Bool, cond, List, ◌++◌, length, get_or, set, take, drop, eqb}
use Rattle.ump.specs.Packet.{first, packet}
use Rattle.stream.specs.Answers.{bad_address, no_table, taken_in}
use Rattle.screen.specs.Screen.{Screened}
use Rattle.screen.specs.Screen.{answering, goes_on, neither_type, screen}
use Rattle.piece.specs.Piece.{Piece, chain_by, no_chain, piece_in, strange_address}
use Rattle.chains.specs.declared.Chain.{Chain}
use Rattle.chains.specs.declared.Collected.{Collected}
use Rattle.chains.specs.Step.{fresh, part_of, step_of}

-- Of a good packet, by its chain and whether its address is strange: 1 where it belongs to no chain, 17, or that its
-- chain is asked.
unfoldable pub of_chain : ℕ → Bool → ℕ
of_chain chain strange = cond (eqb chain no_chain) taken_in (cond strange bad_address goes_on)

-- What a packet is answered before its chain is asked: 3, 4, 6 and 7 with its place, by the screening that lets both
-- protocols pass; then 1 and 17.
unfoldable pub sort_by : Screened → ℕ → Bool → Screened
sort_by s chain strange = cond (eqb s.answer goes_on) (answering (of_chain chain strange)) s

abbrev pub sorted : List ℕ → Screened
sorted p = sort_by (screen neither_type p) (chain_by (first p)) (strange_address (first p))

-- the same, its chain and its piece, of the packet that stands first in the words
abbrev pub refusal_of : List ℕ → ℕ
refusal_of s = (sorted (packet s)).answer

abbrev pub chain_of : List ℕ → ℕ
chain_of s = chain_by (first (packet s))

abbrev pub piece_of : List ℕ → Piece
piece_of s = piece_in (packet s)

-- The buffer has 32 parts, one for each chain; a rest is not used.
abbrev pub share : List ℕ → ℕ
share b = length b / 32

-- the part of chain k
abbrev pub part_at : ℕ → List ℕ → List ℕ
part_at k b = take (share b) (drop (k * share b) b)

-- the buffer with another part k
abbrev pub with_part : ℕ → List ℕ → List ℕ → List ℕ
with_part k part b = take (k * share b) b ++ (part ++ drop (k * share b + share b) b)

-- a piece into chain k, which is c, where a part has n bytes: the chain, where its bytes stand in the buffer and how
-- many
unfoldable pub collected : Chain → ℕ → ℕ → ℕ → Piece → Collected
collected c n k read x =
    record {
      answer = (step_of c n x).answer;
      place = 0;
      read = read;
      chain = k;
      start = k * n;
      length = (step_of c n x).chain.length;
    }

-- a strange address: the chain stays as it is
unfoldable pub kept_open : Chain → ℕ → ℕ → ℕ → Collected
kept_open c n k read =
    record { answer = bad_address; place = 0; read = read; chain = k; start = k * n; length = c.length }

-- no chain is asked, and none is named
unfoldable pub beside : Screened → ℕ → Collected
beside s read =
    record { answer = s.answer; place = s.place; read = read; chain = no_chain; start = 0; length = 0 }

-- What a call reports where the packet's chain is c and a part has n bytes; and what that chain is after it.
unfoldable pub report_with : Chain → ℕ → List ℕ → Collected
report_with c n s =
    cond (eqb (refusal_of s) goes_on) (collected c n (chain_of s) (length (packet s)) (piece_of s))
    (cond (eqb (refusal_of s) bad_address) (kept_open c n (chain_of s) (length (packet s)))
    (beside (sorted (packet s)) (length (packet s))))

unfoldable pub chain_with : Chain → ℕ → List ℕ → Chain
chain_with c n s = cond (eqb (refusal_of s) goes_on) (step_of c n (piece_of s)).chain c

-- and what the buffer then holds
unfoldable pub buffer_with : Chain → List ℕ → List ℕ → List ℕ
buffer_with c b s =
    cond (eqb (refusal_of s) goes_on) (with_part (chain_of s) (part_of c (part_at (chain_of s) b) (piece_of s)) b) b

-- chain k of a list; a packet that belongs to none finds a fresh one, which is not asked
abbrev pub chain_at : ℕ → List Chain → Chain
chain_at k cs = get_or cs k fresh

-- A call with the packet's own chain of a list of 32: its report, the chains after it and the buffer.
abbrev pub report_of : List Chain → List ℕ → List ℕ → Collected
report_of cs b s = report_with (chain_at (chain_of s) cs) (share b) s

abbrev pub chains_of : List Chain → List ℕ → List ℕ → List Chain
chains_of cs b s = set cs (chain_of s) (chain_with (chain_at (chain_of s) cs) (share b) s)

abbrev pub buffer_of : List Chain → List ℕ → List ℕ → List ℕ
buffer_of cs b s = buffer_with (chain_at (chain_of s) cs) b s

-- so many chains a list has, and what is answered before all else where it has not
abbrev pub whole_list : ℕ
whole_list = 32

abbrev pub unlisted : Collected
unlisted = beside (answering no_table) 0

-- One call: what it reports, and the chains and the buffer after it (02 M-106 "Exclusives and text in one piece").
unfoldable pub collected_of : List Chain → List ℕ → List ℕ → Collected
collected_of cs b s = cond (eqb (length cs) whole_list) (report_of cs b s) unlisted

unfoldable pub chains_after : List Chain → List ℕ → List ℕ → List Chain
chains_after cs b s = cond (eqb (length cs) whole_list) (chains_of cs b s) cs

unfoldable pub buffer_after : List Chain → List ℕ → List ℕ → List ℕ
buffer_after cs b s = cond (eqb (length cs) whole_list) (buffer_of cs b s) b
