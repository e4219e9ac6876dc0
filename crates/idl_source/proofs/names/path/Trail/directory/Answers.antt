use Rattle.std.proofs.Common.{◌≡◌, ◌∙◌, ◌∷◌, ◌<◌, [], false, true, List, ℕ, Some, None, cond, ap, sym, length, refl, eqb, arith}
use Rattle.std.proofs.lemmas.Bool.Decides.{nat_tests}
use Rattle.idl_source.specs.names.Directory.{is_directory}
use Rattle.idl_source.specs.names.Path.{directory_text, directory_to}
use Rattle.idl_source.proofs.PathLemmas.{made, directory_to-over, directory_to-text, directory_text-some}
use Rattle.idl_source.proofs.names.path.Trail.directory.Goals as goal

length-some : (text : List ℕ) → eqb (length text) 0 ≡ false → 0 < length text
length-some [] h = cc h
length-some (b ∷ text) h = omega arith

length-none : (text : List ℕ) → eqb (length text) 0 ≡ true → text ≡ []
length-none [] h = refl
length-none (b ∷ text) h =
    let zero : length (b ∷ text) ≡ 0 = grind (arith, nat_tests, h) in
    absurd (omega (arith, zero))

pub returns-in_err-write_steps_up : goal.returns-in_err-write_steps_up
returns-in_err-write_steps_up c = c.from_residual.ensures ∙ sym (directory_to-over c.args.rooted c.args.self c.in_err-write_steps_up.ensures.none)

pub returns-then-not-is_empty : goal.returns-then-not-is_empty
returns-then-not-is_empty c =
    let text = c.text_from-text.result.now in
    made is_directory c.new.result text c.new.ensures.allowed c.new.ensures.same
    ∙ ap (λ (t : List ℕ). cond (is_directory t) (Some t) None) (sym (directory_text-some c.args.rooted text (length-some text (sym c.is_empty.ensures ∙ c.if-not-is_empty.true))))
    ∙ sym (directory_to-text c.args.rooted c.args.self c.write_steps_up.new.self.down text c.text_from-text.ensures c.in_ok-write_steps_up.ensures.some)

pub returns-then-rooted : goal.returns-then-rooted
returns-then-rooted c =
    let text = c.text_from-text.result.now in
    let none : text ≡ [] = length-none text (sym c.is_empty.ensures ∙ c.if-not-is_empty.false) in
    made is_directory c.new-then-rooted.result (47 ∷ []) c.new-then-rooted.ensures.allowed c.new-then-rooted.ensures.same
    ∙ (λ i. cond (is_directory (directory_text (sym c.if-rooted.true i) (sym none i))) (Some (directory_text (sym c.if-rooted.true i) (sym none i))) None)
    ∙ sym (directory_to-text c.args.rooted c.args.self c.write_steps_up.new.self.down text c.text_from-text.ensures c.in_ok-write_steps_up.ensures.some)

pub returns : goal.returns
returns c =
    let text = c.text_from-text.result.now in
    let none : text ≡ [] = length-none text (sym c.is_empty.ensures ∙ c.if-not-is_empty.false) in
    made is_directory c.new-2.result (46 ∷ []) c.new-2.ensures.allowed c.new-2.ensures.same
    ∙ (λ i. cond (is_directory (directory_text (sym c.if-rooted.false i) (sym none i))) (Some (directory_text (sym c.if-rooted.false i) (sym none i))) None)
    ∙ sym (directory_to-text c.args.rooted c.args.self c.write_steps_up.new.self.down text c.text_from-text.ensures c.in_ok-write_steps_up.ensures.some)
