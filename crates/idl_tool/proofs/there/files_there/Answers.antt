use Rattle.std.proofs.Common.{Bool, Bor, ◌∙◌, ℕ, List, ap, ap₂, map, subst, sym}
use Rattle.std.specs.List.{AllZip}
use Rattle.idl_loader.specs.Holding.{Holding}
use Rattle.idl_tool.specs.There.{AreThere, IsHad, files_of, kept}
use Rattle.idl_tool.proofs.there.files_there.Goals as goal

pub returns-then-not-diff-clause-there : goal.returns-then-not-diff-clause-there
returns-then-not-diff-clause-there g c =
    let diff = c.args.diff.now in
    let now = λ (w : Bor (List ℕ)). w.now in
    subst (λ (b : Bool). AreThere b (g.L.Loader.told c.args.loader.now) (files_of diff.old) (files_of diff.new) (map now c.in_ok-old.old.items) (map now c.in_ok-new.new.items)) (sym c.if-not-diff.true)
    (ap (map now) (c.in_ok-old.ensures.items ∙ c.deref.ensures.value), ap (map now) (c.in_ok-new.ensures.items ∙ c.deref-then-not-diff.ensures.value))

pub returns-clause-there : goal.returns-clause-there
returns-clause-there g c =
    let diff = c.args.diff.now in
    let told = g.L.Loader.told c.args.loader.now in
    let now = λ (w : Bor (List ℕ)). w.now in
    let was = c.in_ok-old_had.old_had.items in
    let is = c.in_ok-new_had.new_had.items in
    let old = c.in_ok-old-2.old.items in
    let new = c.in_ok-new-2.new.items in
    subst (λ (b : Bool). AreThere b told (files_of diff.old) (files_of diff.new) (map now old) (map now new)) (sym c.if-not-diff.false)
    (record {
      was = was;
      is = is;
      was_told = subst (λ (fs : List (List ℕ)). AllZip (IsHad told) fs was) (ap (map now) c.deref-2.ensures.value) c.in_ok-old_had.ensures.had;
      is_told = subst (λ (fs : List (List ℕ)). AllZip (IsHad told) fs is) (ap (map now) c.deref-3.ensures.value)
          (subst (λ (t : List ℕ → Holding). AllZip (IsHad t) (map now c.deref-3.result.now) is) c.in_ok-old_had.ensures.still c.in_ok-new_had.ensures.had);
      old_kept = c.in_ok-old-2.ensures ∙ ap₂ (λ (h o : List Bool). kept h o (map now c.deref-6.result.now)) c.deref-4.ensures.value c.deref-5.ensures.value
          ∙ ap (λ (fs : List (Bor (List ℕ))). kept was is (map now fs)) c.deref-6.ensures.value;
      new_kept = c.in_ok-new-2.ensures ∙ ap₂ (λ (h o : List Bool). kept h o (map now c.deref-9.result.now)) c.deref-7.ensures.value c.deref-8.ensures.value
          ∙ ap (λ (fs : List (Bor (List ℕ))). kept is was (map now fs)) c.deref-9.ensures.value;
    })
