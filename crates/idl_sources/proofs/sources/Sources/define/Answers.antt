use Rattle.std.proofs.Common.{◌≡◌, ◌∙◌, ℕ, List, ap, refl, sym}
use Rattle.std.specs.Str.{bytes_eq}
use Rattle.indexmap.specs.IndexMap.{insert_entry}
use Rattle.idl_inputs.specs.Edits.{Define, after}
use Rattle.idl_inputs.specs.Made.{rootless}
use Rattle.idl_inputs.specs.Project.{Inputs}
use Rattle.idl_inputs.proofs.EditLemmas.{define-accepted, define-refused}
use Rattle.idl_inputs.proofs.FormLemmas.{after-formed}
use Rattle.idl_sources.proofs.sources.Sources.define.Goals as goal

pub returns-in-Some : goal.returns-in-Some
returns-in-Some c =
    let word = c.in_ok-word.word in
    record {
      unchanged = refl;
      least = λ other.
          ap (λ (inputs : Inputs). after (rootless inputs) (Define c.args.word.now c.args.body)) (sym c.self.view_is)
          ∙ ap (λ w. after (rootless c.self.inside.bank) (Define w c.args.body)) (sym c.in_ok-word.ensures)
          ∙ define-refused (rootless c.self.inside.bank) word c.args.body c.in-Some.refusal c.in-Some.ensures;
    }

pub invariant_of-self-2 : goal.invariant_of-self-2
invariant_of-self-2 c =
    let old : Inputs = c.self.inside.bank in
    let new : Inputs = c.define.new.self in
    let word = c.in_ok-word.word in
    let made : new ≡ record old { macros = insert_entry bytes_eq old.macros word c.args.body } =
    c.in_ok-define.ensures.ok ∙ ap (λ (b : List ℕ). record old { macros = insert_entry bytes_eq old.macros word b }) c.in_ok-body.ensures in
    after-formed (rootless old) (rootless new) (Define word c.args.body) c.self.invariant (define-accepted (rootless old) word c.args.body new (rootless old).roots c.in_default.ensures made refl)
