-- Over bracketed sites the least of all faults is the least of those to which the walk comes.
use Rattle.std.proofs.Common.{◌≡◌, ◌∙◌, ℕ, ◌+◌, ◌^◌, ◌<◌, true, List, [], ◌∷◌, ◌++◌, length, Option, None, Some, refl, sym, ap, subst, arith}
use Rattle.std.proofs.lemmas.List.Elements.{All-head, All-tail}
use Rattle.std.specs.Prelude.{All, flat_map}
use Rattle.idl_check.specs.walk.AllFaults.{evaluation_faults, site_faults, whole_visit}
use Rattle.idl_check.specs.walk.Sections.{IsFormed, Section, Single, Whole, is_single, section_sites}
use Rattle.idl_check.specs.told.Values.{begun_at}
use Rattle.idl_check.specs.walk.Walk.{Visit, Walk, evaluation_at, label_target, value_visit, visit}
use Rattle.idl_env.specs.declared.answering.answer.Answer.{Answer}
use Rattle.idl_env.specs.declared.keys.key.Key.{Key}
use Rattle.idl_parts.specs.ExpressionParts.{expression_parts, value_parts}
use Rattle.idl_parts.specs.Item.{Item, items, items_length}
use Rattle.idl_parts.specs.Part.{Part as item}
use Rattle.idl_parts.specs.declared.part.Purpose.{Purpose}
use Rattle.idl_parts.specs.declared.part.Purpose.TheVariants as purpose
use Rattle.idl_tree.specs.Expression.{spell_expression}
use Rattle.idl_tree.specs.declared.expression.Expression.{Expression}
use Rattle.idl_value.specs.Evaluation.{Evaluation, Faulty, Valued, first_of}
use Rattle.idl_check_laws.proofs.Faults.AlikeLemmas.{AreAlike, alike-append}
use Rattle.idl_check_laws.proofs.Nests.BracketLemmas.{value-sites}
use Rattle.idl_check_laws.proofs.Faults.ExpressionFaults.{alike-expression, expression-count, for-ordered}
use Rattle.idl_check_laws.proofs.Nests.Operands.{expression-singles}
use Rattle.idl_check.proofs.Visits.SiteLaws.{IsPlaced, visit-placed, visited}
use Rattle.idl_check.proofs.Faults.VisitFaults.{visit_faults}
use Rattle.idl_check.proofs.Visits.WholeLaws.{single-begins, single-same}

-- ---- the end of an expression

value-ends : (w : Walk) (way : Purpose) (x : Evaluation) → (value_visit w way (first_of x)).after.values.begin ≡ None
value-ends w purpose.Bound (Valued v) = refl
value-ends w purpose.Constant (Valued v) = refl
value-ends w purpose.Length (Valued v) = refl
value-ends w purpose.Label (Valued v) = refl
value-ends w way (Faulty []) = refl
value-ends w way (Faulty (f ∷ fs)) = refl

count-append : (xs ys : List Item) → items_length (xs ++ ys) ≡ items_length xs + items_length ys
count-append [] ys = omega arith
count-append (x ∷ xs) ys = omega (arith, count-append xs ys)

module _ (turns : ℕ) (answers : Key → Option Answer) where
  -- over sites the same is told whole
  abbrev IsTold : List Item → Walk → Type 0
  IsTold sites w = AreAlike (visit_faults turns answers sites w) (site_faults turns answers sites w)

  -- over a site that comes to the same whole, and then over others
  one-told : (site : Item) (sites : List Item) (w : Walk) → whole_visit turns answers site w ≡ visited turns answers site w → IsTold sites (visited turns answers site w).after → IsTold (site ∷ sites) w
  one-told site sites w same more =
      let v = visited turns answers site w in
      subst (λ (u : Visit). AreAlike (v.faults ++ visit_faults turns answers sites v.after) (u.faults ++ site_faults turns answers sites u.after)) (sym same)
      (alike-append v.faults v.faults (visit_faults turns answers sites v.after) (site_faults turns answers sites v.after) (λ o. refl) more)

  -- over the names of an expression and the tokens around them
  singles-told : (front sites : List Item) → All (λ x. is_single x ≡ true) front → (w : Walk)
      → ((u : Walk) → u.values.begin ≡ w.values.begin → u.at ≡ w.at + items_length front → IsTold sites u)
      → IsTold (front ++ sites) w
  singles-told [] sites all w more = more w refl (omega arith)
  singles-told (x ∷ front) sites all w more =
      let single = All-head (λ x. is_single x ≡ true) x front all in
      let v = visited turns answers x w in
      let begins = single-begins turns answers x w single in
      let p : IsPlaced x w v = visit-placed turns answers x w in
      one-told x (front ++ sites) w (single-same turns answers x w single)
      (singles-told front sites (All-tail (λ x. is_single x ≡ true) x front all) v.after
      (λ u b at. more u (b ∙ begins) (omega (arith, at, p.passes))))

  -- ---- an expression

  begins-told : (sites : List Item) (w : Walk) → IsTold sites (record w { values = begun_at w.at w.values }) → IsTold (item.ValueBegins ∷ sites) w
  unfolding visit
  begins-told sites w more = one-told item.ValueBegins sites w refl more

  ends-told : (way : Purpose) (e : Expression) (sites : List Item) (w : Walk) (begin : ℕ) → w.values.begin ≡ Some begin → w.at ≡ begin + length (spell_expression e) → length (spell_expression e) < 2 ^ 64
      → ((u : Walk) → u.values.begin ≡ None → IsTold sites u) → IsTold (item.ValueEnds way e ∷ sites) w
  unfolding visit
  ends-told way e sites w begin has at fits more =
      let x = evaluation_at w way e in
      let v = value_visit w way (first_of x) in
      let up = for-ordered w.values.operands e fits way w.written.constants (label_target w.unions) in
      alike-append v.faults (evaluation_faults w way x) (visit_faults turns answers sites v.after) (site_faults turns answers sites v.after)
      (alike-expression w way begin (length (spell_expression e)) has at x up)
      (more v.after (value-ends w way x))

  whole-told : (way : Purpose) (e : Expression) (sites : List Item) (w : Walk) → items_length (items (value_parts way e) ++ sites) < 2 ^ 64
      → ((u : Walk) → u.values.begin ≡ None → IsTold sites u) → IsTold (items (value_parts way e) ++ sites) w
  whole-told way e sites w fits more =
      let front = items (expression_parts e) in
      let count = expression-count e in
      let whole = ap items_length (value-sites way e sites) in
      let parts = count-append front (item.ValueEnds way e ∷ sites) in
      let few : length (spell_expression e) < 2 ^ 64 = omega (arith, whole, parts, count, fits) in
      subst (λ xs. IsTold xs w) (sym (value-sites way e sites))
      (begins-told (front ++ item.ValueEnds way e ∷ sites) w
      (singles-told front (item.ValueEnds way e ∷ sites) (expression-singles e) (record w { values = begun_at w.at w.values })
      (λ u b at. ends-told way e sites u w.at b (omega (arith, at, count)) few more)))

  -- ---- all sections

  pub sections-told : (sections : List Section) → All IsFormed sections → (w : Walk) → w.values.begin ≡ None → items_length (flat_map section_sites sections) < 2 ^ 64
      → IsTold (flat_map section_sites sections) w
  sections-told [] formed w none fits = λ o. refl
  sections-told (Single site ∷ sections) formed w none fits =
      let rest = flat_map section_sites sections in
      let single = All-head IsFormed (Single site) sections formed in
      one-told site rest w (single-same turns answers site w single)
      (sections-told sections (All-tail IsFormed (Single site) sections formed) (visited turns answers site w).after (single-begins turns answers site w single ∙ none) (omega (arith, fits)))
  sections-told (Whole way e ∷ sections) formed w none fits =
      let rest = flat_map section_sites sections in
      let few : items_length rest < 2 ^ 64 = omega (arith, fits, count-append (items (value_parts way e)) rest) in
      whole-told way e rest w fits (λ u b. sections-told sections (All-tail IsFormed (Whole way e) sections formed) u b few)
