-- `text::fields::line_with_fields`: the head, the fields and the end of the line are stored one after the other, where
-- there is room for all of them.
use Rattle.std.proofs.Common.{◌≡◌, ◌+◌, ◌*◌, ◌-◌, ◌∷◌, [], ◌++◌, add-one, arith, length, map, sym, ◌∙◌}
use Rattle.std.proofs.lemmas.List.{length-map}
use borrow.Author.Tests.{leb-false, leb-true}
use Rattle.text.specs.Lines.{fields_of}
use Rattle.text.proofs.LineLaws.{fields-length}
use Rattle.text.proofs.RowLaws.{put_there, put_nowhere, whole_length, whole_stored}
use Rattle.text.proofs.fields.line_with_fields.Goals as goal

pub returns-then-has_room : goal.returns-then-has_room
returns-then-has_room g c =
    let a = c.args in
    let h = a.head.now in
    let f = fields_of a.digits (map g.T.Field.worth a.numbers.now) in
    let many = length-map a.numbers.now g.T.Field.worth in
    let some : length f ≡ (a.digits + 1) * length a.numbers.now =
    fields-length a.digits (map g.T.Field.worth a.numbers.now) ∙ rw (many, add-one a.digits) in
    let long = whole_length h f in
    let n = length h + 1 + (a.digits + 1) * length a.numbers.now in
    let fit = leb-true n (length a.out.now - a.to) (sym c.has_room.ensures ∙ c.if-has_room.true) in
    let end = c.put_fields-end.ensures in
    let r = put_there a.out.now a.to (h ++ f ++ (10 ∷ [])) n (omega (arith, long, some)) fit _ _
    (omega (arith, end.place))
    (rw (end.place, end.text, c.put_row.ensures, ← some) (whole_stored a.out.now h f a.to)) in
    record {
      place = r.0;
      text = r.1;
    }

pub returns-else-has_room : goal.returns-else-has_room
returns-else-has_room g c =
    let a = c.args in
    let h = a.head.now in
    let f = fields_of a.digits (map g.T.Field.worth a.numbers.now) in
    let many = length-map a.numbers.now g.T.Field.worth in
    let some : length f ≡ (a.digits + 1) * length a.numbers.now =
    fields-length a.digits (map g.T.Field.worth a.numbers.now) ∙ rw (many, add-one a.digits) in
    let long = whole_length h f in
    let n = length h + 1 + (a.digits + 1) * length a.numbers.now in
    let fit = leb-false n (length a.out.now - a.to) (sym c.has_room.ensures ∙ c.if-has_room.false) in
    let r = put_nowhere a.out.now a.to (h ++ f ++ (10 ∷ [])) n (omega (arith, long, some)) fit in
    record {
      place = r.0;
      text = r.1;
    }
