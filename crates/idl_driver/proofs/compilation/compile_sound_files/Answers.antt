use Rattle.std.proofs.Common.{◌∙◌, ℕ, List, Some, ap, length, subst, sym}
use Rattle.idl_driver.specs.Left.{AreAllBut}
use Rattle.idl_driver.proofs.compilation.compile_sound_files.Goals as goal

pub returns-clause-compiled : goal.returns-clause-compiled
returns-clause-compiled g c =
    let first = c.in_ok-sources.ensures.asked in
    let sound = c.in_ok-sound.sound in
    let are = c.in_ok-sound.ensures.compiled in
    record {
      roots = c.in_ok-sources.roots.keys;
      asked = record {
        over = record { macros = are.stays.macros ∙ first.over.macros; search = first.over.search ∙ ap Some (sym are.stays.search) };
        named = first.named;
        nameless_are = first.nameless_are;
      };
      left = subst (λ (rs : List (List ℕ)). AreAllBut rs (length sound.faults.items) sound.roots.items) c.as_slice.ensures.keys c.in_ok-sound.ensures.left;
      formed = are.formed;
      loaded = are.loaded;
      complete = are.complete;
      compiled = are.rows;
    }
