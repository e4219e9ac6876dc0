use Rattle.std.proofs.Common.{◌≡◌, ◌∙◌, ℕ, List, Bor, ap, sym}
use Rattle.idl_inputs.specs.Project.{Inputs, Macros}
use Rattle.idl_driver.proofs.OptionLemmas.{defined-next}
use Rattle.idl_driver.proofs.preparing.define_all.Goals as goal

pub words-preserved : goal.words-preserved
words-preserved c =
    let before = c.words.sources.macros in
    let after = c.define.new.sources.macros in
    let made : after ≡ _ = ap (λ (i : Inputs). i.macros) c.in_ok-define.ensures in
    record {
      others = c.in_ok-define.ensures ∙ ap (λ (ms : Macros). record c.words.sources { macros = ms }) (sym made) ∙ ap (λ (i : Inputs). record i { macros = after }) c.words.invariant.others;
      macros = defined-next (λ (w : Bor (List ℕ)). w.now) c.args.words.now c.words.word-index _ before after c.words-test.true made ∙ c.words.invariant.macros;
    }
