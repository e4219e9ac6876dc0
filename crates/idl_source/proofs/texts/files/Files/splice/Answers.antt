use Rattle.std.proofs.Common.{◌≡◌, ◌∙◌, ◌+◌, ◌-◌, ◌++◌, ℕ, List, Some, true, false, ap, sym, take, drop, length, arith, length-drop}
use Rattle.std.proofs.lemmas.List.{take_all}
use Rattle.std.specs.FinMap as finite
use Rattle.idl_source.specs.names.Name.{is_name}
use Rattle.idl_source.specs.texts.Texts.{is_inside, is_splice_over, spliced}
use Rattle.idl_source.proofs.TextLemmas.{is_splice_over-length, splice-accepted, splice-over, splice-there}
use Rattle.idl_source.proofs.texts.files.Files.splice.Goals as goal

pub returns-then-is_splice_over-clause-err : goal.returns-then-is_splice_over-clause-err
returns-then-is_splice_over-clause-err c _ =
    let name = c.args.name.now in
    let files = c.args.self.now in
    let lines = c.args.lines.items in
    let from = c.args.span.from in
    let del = c.args.span.del in
    let old = c.lines-old.result.now in
    let allowed : is_name name ≡ true = c.in_ok-name.ensures.ok.0 in
    let there : finite.get files name ≡ Some old = ap (finite.get files) (sym (c.as_bytes.ensures.bytes ∙ c.in_ok-name.ensures.ok.1)) ∙ sym c.in-Some.ensures ∙ ap Some (sym c.lines-old.ensures) in
    let inside : is_inside old from del ≡ true = sym c.is_inside.ensures.inside ∙ c.if-not-is_inside.false in
    let within = c.is_inside.ensures.within c.if-not-is_inside.false in
    let over : is_splice_over old from del lines ≡ true = sym (is_splice_over-length old from del lines within.0 within.1)
    ∙ rw c.deref.ensures.value at (sym c.is_splice_over.ensures ∙ c.if-is_splice_over.true) in
    splice-there files name old from del lines allowed there ∙ splice-over files name old from del lines inside over

pub returns-clause-ok : goal.returns-clause-ok
returns-clause-ok c =
    let name = c.args.name.now in
    let files = c.args.self.now in
    let lines = c.args.lines.items in
    let from = c.args.span.from in
    let del = c.args.span.del in
    let old = c.lines-old.result.now in
    let end = from - 1 + del in
    let allowed : is_name name ≡ true = c.in_ok-name.ensures.ok.0 in
    let there : finite.get files name ≡ Some old = ap (finite.get files) (sym (c.as_bytes.ensures.bytes ∙ c.in_ok-name.ensures.ok.1)) ∙ sym c.in-Some.ensures ∙ ap Some (sym c.lines-old.ensures) in
    let inside : is_inside old from del ≡ true = sym c.is_inside.ensures.inside ∙ c.if-not-is_inside.false in
    let within = c.is_inside.ensures.within c.if-not-is_inside.false in
    let within : is_splice_over old from del lines ≡ false = sym (is_splice_over-length old from del lines within.0 within.1)
    ∙ rw c.deref.ensures.value at (sym c.is_splice_over.ensures ∙ c.if-is_splice_over.false) in
    let rest : take (length old - end) (drop end old) ≡ drop end old = take_all _ _ (omega (arith, length-drop end old)) in
    let all : c.in_ok-lines.lines.items ≡ spliced old from del lines = c.in_ok-lines.ensures ∙ ap (λ (l : List (List ℕ)). take (from - 1) old ++ (lines ++ l)) rest in
    splice-there files name old from del lines allowed there
    ∙ splice-accepted files c.in_ok-files.files name old from del lines inside within
    ((λ i. finite.insert files (sym c.in_ok-name.ensures.ok.1 i) (sym all i)) ∙ sym c.in_ok-files.ensures)
