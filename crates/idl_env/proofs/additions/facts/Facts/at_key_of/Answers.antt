use Rattle.std.proofs.Common.{◌≡◌, IfOk, Some, None, sym, ap, ◌∙◌, map, subst}
use Rattle.std.specs.List.{position}
use Rattle.std.specs.Option.{option_copied, option_or}
use Rattle.std.proofs.lemmas.List.Quantifiers.{position-Some}
use Rattle.std.proofs.lemmas.Option.{slice_get-get_or}
use Rattle.idl_map.specs.Marks.{is_marked}
use Rattle.idl_env.specs.Facts.{UnitFacts, addition_at, key_of}
use Rattle.idl_env.specs.keys.Key.{key_eq}
use Rattle.idl_env.specs.declared.additions.addition.Addition.{Addition}
use Rattle.idl_env.proofs.AnswerLaws.AnswerLemmas.{lookup-addition_at}
use Rattle.idl_env.proofs.FirstLemmas.{absent, addition_at-append, present}
use Rattle.idl_env.proofs.additions.facts.Facts.at_key_of.Goals as goal

pub returns-then-not-has : goal.returns-then-not-has
returns-then-not-has c =
    let k = key_of c.args.other.now in
    let unmarked = ap (is_marked c.self.inside.marks) (sym c.digest.ensures) ∙ sym c.has.ensures ∙ c.if-not-has.true in
    sym (c.self.invariant.1.1 k unmarked) ∙ ap (λ (f : UnitFacts). addition_at f.additions k) c.self.view_is

pub returns-in-Some : goal.returns-in-Some
returns-in-Some c =
    let first = c.self.inside.first.items in
    let more = map (λ e. e.1) c.self.inside.others in
    let k = key_of c.args.other.now in
    let place = c.in-Some.place in
    let test = λ (a : Addition). key_eq k (key_of a) in
    let there : position test first ≡ Some place = ap (position test) (sym c.as_slice.ensures.value) ∙ sym c.in-Some.ensures in
    let within = (position-Some test first place c.index.result.now there).0 in
    let found : addition_at first k ≡ Some c.addition.result.now =
    present k first place there
    ∙ slice_get-get_or first place c.index.result.now within
    ∙ sym (ap Some c.index.ensures)
    ∙ sym (ap Some c.addition.ensures) in
    sym (ap (λ o. option_or o (addition_at more k)) found)
    ∙ sym (addition_at-append k first more)
    ∙ ap (λ (f : UnitFacts). addition_at f.additions k) c.self.view_is

pub returns-in-None : goal.returns-in-None
returns-in-None c =
    let first = c.self.inside.first.items in
    let more = map (λ e. e.1) c.self.inside.others in
    let k = key_of c.args.other.now in
    let test = λ (a : Addition). key_eq k (key_of a) in
    let nowhere : position test first ≡ None = ap (position test) (sym c.as_slice.ensures.value) ∙ sym c.in-None.ensures in
    subst (λ found. IfOk c.behind_at.result (λ a. option_copied a ≡ found))
    (lookup-addition_at c.self.inside.others k c.self.invariant.0
    ∙ sym (ap (λ o. option_or o (addition_at more k)) (absent k first nowhere))
    ∙ sym (addition_at-append k first more)
    ∙ ap (λ (f : UnitFacts). addition_at f.additions k) c.self.view_is)
    c.behind_at.ensures
