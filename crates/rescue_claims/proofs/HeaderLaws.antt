-- The header: five bytes decide. Assumes nothing.
use Rattle.std.proofs.Common.{◌≡◌, Bool, true, false, cond, take, Result, Ok, Err, refl, ap}
use Rattle.std.proofs.lemmas.Bool.Decides.{Decides-eqb}
use Rattle.std.proofs.lemmas.Slice.Eq.{starts_is}
use Rattle.recording.specs.declared.HeaderError.{HeaderError}
use Rattle.recording.specs.declared.HeaderError.TheVariants.{WrongMark, WrongVersion}
use Rattle.recording.specs.Recording.{begins, header, header_answer, mark}
use Rattle.rescue_claims.specs.Rescued.{Headers}

-- only a file with both the mark and the header is answered so
both : (m v : Bool)
    → ◌≡◌ {A = Result (Unit {0}) HeaderError} (cond m (cond v (Ok tt) (Err WrongVersion)) (Err WrongMark)) (Ok tt)
    → v ≡ true
both true true h = refl
both true false h = cc
both false v h = cc

pub proved-headers : Headers
unfolding header_answer
proved-headers =
    record {
      written = λ s. refl;
      taken = λ s h.
          let b = both (begins s mark) (begins s header) h in
          ap (take 5) ((starts_is Decides-eqb s header (begins s header) refl).0 b);
    }
