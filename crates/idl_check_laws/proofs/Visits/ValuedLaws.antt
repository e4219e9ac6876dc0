-- A unit without fault has a value for each of its expressions, and a constant has one.
use Rattle.std.proofs.Common.{◌≡◌, ◌∙◌, ℕ, ◌+◌, ◌≤◌, Bool, true, false, List, [], ◌∷◌, ◌++◌, length, Option, None, Some, Result, Ok, Err, append_assoc, flat_map, refl, sym, ap, subst, arith}
use Rattle.std.proofs.lemmas.Grind.{flat_map-append}
use Rattle.std.proofs.lemmas.List.{append-nil, length-append, map-append}
use Rattle.std.proofs.lemmas.List.Elements.{All-append, All-cons, All-head, All-nil, All-tail}
use Rattle.std.specs.List.{list_any}
use Rattle.std.specs.Option.{IsSome}
use Rattle.std.specs.Prelude.{◌≢◌, ◌||◌, All}
use Rattle.idl_check.specs.walk.AllFaults.{site_faults}
use Rattle.idl_check.specs.walk.Judging.{used_name, used_names, walked}
use Rattle.idl_check.specs.told.Labels.{Labels}
use Rattle.idl_tree.specs.NameParts.{last_at}
use Rattle.idl_check.specs.walk.Sections.{IsFormed, Section, Single, Whole, is_single, section_sites}
use Rattle.idl_check.specs.told.Types.{looked_through}
use Rattle.idl_check_laws.specs.Valued.{AreValues, IsValue, expression_at, expressions}
use Rattle.idl_check.specs.told.Values.{begun_at, evaluation_for}
use Rattle.idl_check.specs.walk.Walk.{Visit, Walk, evaluation_at, first_walk, label_target, turns_at, used, used_visit, value_visit, visit}
use Rattle.idl_lex.specs.declared.kinds.mark.Mark.TheVariants as mark
use Rattle.idl_memo.proofs.QueryLaws.{outcome-and_then}
use Rattle.idl_memo.specs.Query.{Done, outcome}
use Rattle.idl_scope.specs.Lookup.{denoted, under}
use Rattle.idl_env.specs.declared.answering.answer.Answer.{Answer}
use Rattle.idl_env.specs.declared.answering.answer.Scope.{Scope}
use Rattle.idl_scope.specs.declared.fault.NameFault.{NameFault}
use Rattle.idl_scope.specs.declared.fault.NameFault.TheVariants.{At, Memory}
use Rattle.idl_scope.specs.declared.found.Found.{Found}
use Rattle.idl_env.specs.declared.keys.key.Key.{Key}
use Rattle.idl_parts.specs.ExpressionParts.{expression_parts, value_parts}
use Rattle.idl_parts.specs.Item.{Item, item_of, items}
use Rattle.idl_parts.specs.Part.{Parts, Declares, ValueEnds, punctuation, Part as item}
use Rattle.idl_parts.specs.TypeParts.{constant_type_parts}
use Rattle.idl_parts.specs.UnitParts.{unit_parts}
use Rattle.idl_parts.specs.declared.part.Declaration.TheVariants as declaration
use Rattle.idl_parts.specs.declared.part.Purpose.{Purpose}
use Rattle.idl_parts.specs.declared.part.Purpose.TheVariants as purpose
use Rattle.idl_parts.specs.declared.part.Use.TheVariants.{AsOperand}
use Rattle.idl_tree.specs.declared.expression.Expression.{Expression}
use Rattle.idl_tree.specs.declared.name.ScopedName.{ScopedName}
use Rattle.idl_tree.specs.declared.unit.Constant.{Constant}
use Rattle.idl_tree.specs.declared.unit.Tree.{Tree}
use Rattle.idl_tree.specs.declared.unit.Tree.TheVariants as tree
use Rattle.idl_value.proofs.DecisionLemmas.{bound-open, value-open}
use Rattle.idl_value.specs.Evaluation.{Evaluation, Faulty, Operands, Valued, first_of}
use Rattle.idl_value.specs.Names.{AreGiven}
use Rattle.idl_value.specs.declared.constant_type.ConstantType.{ConstantType}
use Rattle.idl_value.specs.declared.value.Value.{Value}
use Rattle.idl_check_laws.proofs.Nests.AroundLaws.{IsKept, IsTyped, StandsIn, single-kept, used-kept, used-none, valued-stands}
use Rattle.idl_check_laws.proofs.Nests.BracketLemmas.{value-sites}
use Rattle.idl_check_laws.proofs.Nests.Nesting.{arounds-operands}
use Rattle.idl_check_laws.proofs.Nests.LevelSites.{AreFit, Around, IsFit, IsKnown, around_after, arounds}
use Rattle.idl_check_laws.proofs.Nests.Operands.{expression-singles, expression-names, expression-operands, is_operand, names_in, operand-case}
use Rattle.idl_check.proofs.PartLemmas.{IsUpTo}
use Rattle.idl_check.proofs.Visits.SiteLaws.{denoted-up, used_by, visited}
use Rattle.idl_check_laws.proofs.Nests.UnitNesting.{unit-whole}
use Rattle.idl_check.proofs.Faults.VisitFaults.{visit_faults}
use Rattle.idl_check.proofs.Visits.WalkLaws.{none-append}
use Rattle.idl_check.proofs.Visits.WholeLaws.{whole-none}

-- ---- operands

-- a walk behind operands, so many of which are names
record Grows (w u : Walk) (a : Around) (n : ℕ) : Type 0 where
  kept : IsKept w u a
  count : length u.values.operands ≡ length w.values.operands + n
  some : All IsSome w.values.operands → All IsSome u.values.operands

-- one name more, with its value
record HasOne (w u : Walk) : Type 0 where
  operand : Option Value
  some : IsSome operand
  are : u.values.operands ≡ w.values.operands ++ operand ∷ []

one-grows : (w u : Walk) (a : Around) → IsKept w u a → HasOne w u → Grows w u a 1
one-grows w u a kept h = record {
  kept = kept;
  count = ap length h.are ∙ length-append w.values.operands (h.operand ∷ []);
  some =
      λ all. subst (All IsSome) (sym h.are)
      (All-append IsSome w.values.operands (h.operand ∷ []) all (All-cons IsSome h.operand [] h.some (All-nil IsSome)));
}

module _ (turns : ℕ) (answers : Key → Option Answer) where
  operand-by : (name : ScopedName) (w : Walk) (r : Result Found NameFault) → IsUpTo {A = Found} (length name.rest) r
      → (outcome (used_by turns answers AsOperand name w r) answers).faults ≡ [] → HasOne w (outcome (used_by turns answers AsOperand name w r) answers).after
  operand-by name w (Ok found) up none =
      let query = under w.own (looked_through (turns_at turns w) AsOperand found.entity) in
      let same = outcome-and_then query (λ behind. Done (used_visit w AsOperand name found behind)) answers in
      subst (λ (v : Visit). HasOne w v.after) (sym same)
      (record {
        operand = found.entity.value;
        some = (used-none (last_at w.at name) w AsOperand found.entity (outcome query answers) (ap (λ (v : Visit). v.faults) (sym same) ∙ none)).0;
        are = refl;
      })
  operand-by name w (Err (At why part)) up none = cc
  operand-by name w (Err Memory) up none = absurd up

  operand-one : (name : ScopedName) (w : Walk) → (outcome (used turns AsOperand name w) answers).faults ≡ [] → HasOne w (outcome (used turns AsOperand name w) answers).after
  unfolding used
  operand-one name w none =
      let query = under w.own (denoted (turns_at turns w) w.cursor name) in
      let same = outcome-and_then query (used_by turns answers AsOperand name w) answers in
      subst (λ (v : Visit). HasOne w v.after) (sym same) (operand-by name w (outcome query answers) (denoted-up turns answers name w) (ap (λ (v : Visit). v.faults) (sym same) ∙ none))

  operand-grows : (x : Item) (w : Walk) (a : Around) → is_operand x ≡ true → (visited turns answers x w).faults ≡ [] → StandsIn w a
      → Grows w (visited turns answers x w).after a (length (used_name x))
  unfolding visit
  operand-grows x w a operand none k =
      operand-case (λ y. (visited turns answers y w).faults ≡ [] → Grows w (visited turns answers y w).after a (length (used_name y)))
      (λ n h. record { kept = record { stands = k; told = refl; constant = refl }; count = omega arith; some = λ all. all })
      (λ name h. one-grows w (outcome (used turns AsOperand name w) answers).after a (used-kept turns answers AsOperand name w a h k) (operand-one name w h)) x operand none

  front-grows : (front : List Item) → All (λ x. is_operand x ≡ true) front → (w : Walk) (a : Around) → visit_faults turns answers front w ≡ [] → StandsIn w a
      → Grows w (walked turns answers front w) a (names_in front)
  front-grows [] all w a none k = record { kept = record { stands = k; told = refl; constant = refl }; count = omega arith; some = λ all. all }
  front-grows (x ∷ front) all w a none k =
      let v = visited turns answers x w in
      let parts = none-append v.faults (visit_faults turns answers front v.after) none in
      let g = operand-grows x w a (All-head (λ x. is_operand x ≡ true) x front all) parts.0 k in
      let m = front-grows front (All-tail (λ x. is_operand x ≡ true) x front all) v.after a parts.1 g.kept.stands in
      record {
        kept = record { stands = m.kept.stands; told = m.kept.told ∙ g.kept.told; constant = m.kept.constant ∙ g.kept.constant };
        count = let b = g.count in let c = m.count in let n = length-append (used_name x) (used_names front) in omega (arith, b, c, n);
        some = λ all. m.some (g.some all);
      }

  -- over sites one after another
  pub faults-follow : (xs ys : List Item) (w : Walk) → visit_faults turns answers (xs ++ ys) w ≡ visit_faults turns answers xs w ++ visit_faults turns answers ys (walked turns answers xs w)
  faults-follow [] ys w = refl
  faults-follow (x ∷ xs) ys w =
      let v = visited turns answers x w in
      ap (λ fs. v.faults ++ fs) (faults-follow xs ys v.after) ∙ sym (append_assoc v.faults (visit_faults turns answers xs v.after) (visit_faults turns answers ys (walked turns answers xs v.after)))

  pub walked-on : (xs ys : List Item) (w : Walk) → walked turns answers ys (walked turns answers xs w) ≡ walked turns answers (xs ++ ys) w
  walked-on [] ys w = refl
  walked-on (x ∷ xs) ys w = walked-on xs ys (visited turns answers x w).after

-- ---- the end of an expression

abbrev is_constant : Purpose → Bool
is_constant purpose.Constant = true
is_constant other = false

-- the type of the innermost union's labels is known where there is one
label-some : (unions : List Labels) → All IsTyped unions → 1 ≤ length unions → IsSome (label_target unions)
label-some [] typed h = absurd (omega (arith, h))
label-some (l ∷ unions) typed h = All-head IsTyped l unions typed

label-found : (o c : Option ConstantType) (os : Operands) (e : Expression) → IsSome o → AreGiven os e → evaluation_for purpose.Label c o os e ≢ Faulty []
label-found None c os e some given = cc
label-found (Some t) c os e some given = value-open t os e given

constant-found : (o l : Option ConstantType) (os : Operands) (e : Expression) → IsSome o → AreGiven os e → evaluation_for purpose.Constant o l os e ≢ Faulty []
constant-found None l os e some given = cc
constant-found (Some t) l os e some given = value-open t os e given

known-found : (way : Purpose) (e : Expression) (u : Walk) (a : Around) → AreGiven u.values.operands e → IsKnown way a → StandsIn u a → evaluation_at u way e ≢ Faulty []
known-found purpose.Bound e u a given known k = bound-open u.values.operands e given
known-found purpose.Length e u a given known k = bound-open u.values.operands e given
known-found purpose.Constant e u a given known k = constant-found u.written.constants (label_target u.unions) u.values.operands e (k.constant known) given
known-found purpose.Label e u a given known k =
    label-found (label_target u.unions) u.written.constants u.values.operands e (label-some u.unions k.typed (let c = k.count in omega (arith, c, known))) given

value-there : (x : Evaluation) → x ≢ Faulty [] → (u : Walk) (way : Purpose) → (value_visit u way (first_of x)).faults ≡ [] → (v : Value) × (x ≡ Valued v)
value-there (Valued v) decided u way none = (v, refl)
value-there (Faulty []) decided u way none = absurd (decided refl)
value-there (Faulty (f ∷ fs)) decided u way none = cc

-- a walk behind an expression with a value
record Ends (u t : Walk) (a : Around) (way : Purpose) (v : Value) : Type 0 where
  stands : StandsIn t a
  told : t.values.told ≡ u.values.told ++ v ∷ []
  kept : IsSome u.values.constant → IsSome t.values.constant
  constant : is_constant way ≡ true → IsSome t.values.constant

value-ends : (way : Purpose) (v : Value) (u : Walk) (a : Around) → StandsIn u a → Ends u (value_visit u way (first_of (Valued v))).after a way v
value-ends purpose.Bound v u a k = record { stands = k; told = refl; kept = λ h. h; constant = λ h. cc }
value-ends purpose.Constant v u a k = record { stands = k; told = refl; kept = λ h. refl; constant = λ h. refl }
value-ends purpose.Length v u a k = record { stands = k; told = refl; kept = λ h. h; constant = λ h. cc }
value-ends purpose.Label v u a k = record { stands = valued-stands purpose.Label v u a k; told = refl; kept = λ h. h; constant = λ h. cc }

-- ---- sections

abbrev of_constant : Purpose × Expression → Bool
of_constant e = is_constant e.0

-- the expressions of a section
abbrev section_expressions : Section → List (Purpose × Expression)
section_expressions (Single site) = []
section_expressions (Whole way e) = (way, e) ∷ []

-- what a walk has told behind these expressions
record IsTold (es : List (Purpose × Expression)) (w u : Walk) : Type 0 where
  values : List Value
  told : u.values.told ≡ w.values.told ++ values
  are : AreValues es values
  kept : IsSome w.values.constant → IsSome u.values.constant
  constant : list_any of_constant es ≡ true → IsSome u.values.constant

-- one more, before the others
first-told : (way : Purpose) (e : Expression) (es : List (Purpose × Expression)) (v : Value) (a : Around) (w u t z : Walk) → u.values.told ≡ w.values.told → u.values.constant ≡ w.values.constant → IsValue way e v
    → Ends u t a way v → IsTold es t z → IsTold ((way, e) ∷ es) w z
first-told way e es v a w u t z told constant is ends more = record {
  values = v ∷ more.values;
  told = more.told ∙ ap (λ xs. xs ++ more.values) (ends.told ∙ ap (λ xs. xs ++ v ∷ []) told) ∙ append_assoc w.values.told (v ∷ []) more.values;
  are = (is, more.are);
  kept = λ h. more.kept (ends.kept (subst IsSome (sym constant) h));
  constant =
      λ h. (elim (is_constant way) as (λ b. (is_constant way ≡ b) → (b || list_any of_constant es) ≡ true → IsSome z.values.constant)
      [ true ↦ λ c g. more.kept (ends.constant c) | false ↦ λ c g. more.constant g ]) refl h;
}

fit-behind : (xs ys : List Item) (a : Around) → AreFit (xs ++ ys) a → AreFit ys (arounds xs a)
fit-behind [] ys a h = h
fit-behind (x ∷ xs) ys a h = fit-behind xs ys (around_after x a) h.1

module _ (turns : ℕ) (answers : Key → Option Answer) where
  -- a whole expression, and sites behind it
  whole-told : (way : Purpose) (e : Expression) (sites : List Item) (es : List (Purpose × Expression)) (w : Walk) (a : Around) → StandsIn w a
      → AreFit (item.ValueBegins ∷ (items (expression_parts e) ++ item.ValueEnds way e ∷ sites)) a
      → visit_faults turns answers (item.ValueBegins ∷ (items (expression_parts e) ++ item.ValueEnds way e ∷ sites)) w ≡ []
      → ((u : Walk) → StandsIn u a → AreFit sites a → visit_faults turns answers sites u ≡ [] → IsTold es u (walked turns answers sites u))
      → IsTold ((way, e) ∷ es) w (walked turns answers (item.ValueBegins ∷ (items (expression_parts e) ++ item.ValueEnds way e ∷ sites)) w)
  unfolding visit
  whole-told way e sites es w a k fit none more =
      let front = items (expression_parts e) in
      let last = item.ValueEnds way e ∷ sites in
      let operands = expression-operands e in
      let w0 : Walk = record w { values = begun_at w.at w.values } in
      let u = walked turns answers front w0 in
      let parts = none-append (visit_faults turns answers front w0) (visit_faults turns answers last u) (subst (λ fs. fs ≡ []) (faults-follow turns answers front last w0) none) in
      let g : Grows w0 u a (names_in front) = front-grows turns answers front operands w0 a parts.0 k in
      let count = g.count in
      let names = expression-names e in
      let full : AreGiven u.values.operands e = record { enough = omega (arith, count, names); values = g.some (All-nil IsSome) } in
      let behind : AreFit last a = subst (AreFit last) (arounds-operands front a operands) (fit-behind front last a fit.1) in
      let x = evaluation_at u way e in
      let v = value_visit u way (first_of x) in
      let end = none-append v.faults (visit_faults turns answers sites v.after) parts.1 in
      let there = value-there x (known-found way e u a full behind.0 g.kept.stands) u way end.0 in
      let ends : Ends u v.after a way there.0 = subst (λ (y : Evaluation). Ends u (value_visit u way (first_of y)).after a way there.0) (sym there.1) (value-ends way there.0 u a g.kept.stands) in
      let is : IsValue way e there.0 = record {
        constant = u.written.constants;
        label = label_target u.unions;
        operands = u.values.operands;
        given = full;
        is = there.1;
      } in
      subst (λ z. IsTold ((way, e) ∷ es) w z) (walked-on turns answers front last w0)
      (first-told way e es there.0 a w u v.after (walked turns answers sites v.after) g.kept.told g.kept.constant is ends
      (more v.after ends.stands behind.1 end.1))

  -- over sections without fault
  sections-told : (sections : List Section) → All IsFormed sections → (w : Walk) (a : Around) → StandsIn w a → AreFit (flat_map section_sites sections) a
      → visit_faults turns answers (flat_map section_sites sections) w ≡ []
      → IsTold (flat_map section_expressions sections) w (walked turns answers (flat_map section_sites sections) w)
  sections-told [] formed w a k fit none = record { values = []; told = sym (append-nil w.values.told); are = tt; kept = λ h. h; constant = λ h. cc }
  sections-told (Single site ∷ sections) formed w a k fit none =
      let rest = flat_map section_sites sections in
      let v = visited turns answers site w in
      let single = All-head IsFormed (Single site) sections formed in
      let parts = none-append v.faults (visit_faults turns answers rest v.after) none in
      let kept = single-kept turns answers site w a single (λ is. subst (λ x. IsFit x a) is fit.0) parts.0 k in
      let more = sections-told sections (All-tail IsFormed (Single site) sections formed) v.after (around_after site a) kept.stands fit.1 parts.1 in
      record {
        values = more.values;
        told = more.told ∙ ap (λ xs. xs ++ more.values) kept.told;
        are = more.are;
        kept = λ h. more.kept (subst IsSome (sym kept.constant) h);
        constant = more.constant;
      }
  sections-told (Whole way e ∷ sections) formed w a k fit none =
      let rest = flat_map section_sites sections in
      let es = flat_map section_expressions sections in
      let P : List Item → Type 0 = λ xs. AreFit xs a → visit_faults turns answers xs w ≡ [] → IsTold ((way, e) ∷ es) w (walked turns answers xs w) in
      subst P (sym (value-sites way e rest))
      (λ f n. whole-told way e rest es w a k f n (λ u s h no. sections-told sections (All-tail IsFormed (Whole way e) sections formed) u a s h no))
      fit none

-- ---- units

single-none : (x : Item) → is_single x ≡ true → expression_at x ≡ []
single-none (item.Plain n) h = refl
single-none (item.Declares way name) h = refl
single-none (item.Uses way name) h = refl
single-none (item.Says purpose text) h = refl
single-none item.ValueBegins h = refl
single-none (item.ValueEnds way e) h = cc
single-none (item.ScopeBegins way name) h = refl
single-none item.ScopeEnds h = refl
single-none (item.TypeEnds shape) h = refl
single-none item.ArrayEnds h = refl
single-none (item.Enumerates names) h = refl
single-none (item.Identifies text) h = refl
single-none (item.Switches discrete) h = refl
single-none item.Default h = refl
single-none item.GivesBack h = refl

singles-none : (xs : List Item) → All (λ x. is_single x ≡ true) xs → expressions xs ≡ []
singles-none [] all = refl
singles-none (x ∷ xs) all =
    ap (λ es. es ++ expressions xs) (single-none x (All-head (λ x. is_single x ≡ true) x xs all)) ∙ singles-none xs (All-tail (λ x. is_single x ≡ true) x xs all)

section-has : (s : Section) → IsFormed s → expressions (section_sites s) ≡ section_expressions s
section-has (Single site) formed = ap (λ es. es ++ []) (single-none site formed)
section-has (Whole way e) formed =
    let front = items (expression_parts e) in
    ap expressions (sym (append-nil (items (value_parts way e))) ∙ value-sites way e [])
    ∙ flat_map-append expression_at front (item.ValueEnds way e ∷ [])
    ∙ ap (λ es. es ++ (way, e) ∷ []) (singles-none front (expression-singles e))

sections-have : (sections : List Section) → All IsFormed sections → expressions (flat_map section_sites sections) ≡ flat_map section_expressions sections
sections-have [] formed = refl
sections-have (s ∷ sections) formed =
    flat_map-append expression_at (section_sites s) (flat_map section_sites sections)
    ∙ ap (λ es. es ++ expressions (flat_map section_sites sections)) (section-has s (All-head IsFormed s sections formed))
    ∙ ap (λ es. section_expressions s ++ es) (sections-have sections (All-tail IsFormed s sections formed))

-- nothing stands around a unit's first site
abbrev bare : Around
bare = record { unions = 0; scopes = []; is_typed = false }

stands-first : (scopes : List Scope) → StandsIn (first_walk scopes) bare
stands-first [] = record { count = omega arith; typed = All-nil IsTyped; scopes = tt; constant = λ h. cc }
stands-first (s ∷ scopes) = record { count = omega arith; typed = All-nil IsTyped; scopes = tt; constant = λ h. cc }

module _ (turns : ℕ) (answers : Key → Option Answer) (unit : Tree) (scopes : List Scope) (none : site_faults turns answers (items (unit_parts unit)) (first_walk scopes) ≡ []) where
  unit-told : IsTold (expressions (items (unit_parts unit))) (first_walk scopes) (walked turns answers (items (unit_parts unit)) (first_walk scopes))
  unit-told =
      let whole = unit-whole unit in
      let b = whole.bracketed in
      let w = first_walk scopes in
      let sites = items (unit_parts unit) in
      let P : List Item → Type 0 = λ xs. AreFit xs bare → visit_faults turns answers xs w ≡ [] → IsTold (expressions xs) w (walked turns answers xs w) in
      subst P (sym b.are)
      (λ fit no. subst (λ es. IsTold es w (walked turns answers (flat_map section_sites b.sections) w)) (sym (sections-have b.sections b.formed))
      (sections-told turns answers b.sections b.formed w bare (stands-first scopes) fit no))
      (whole.fit bare) (whole-none turns answers sites w none)

  pub unit-values : AreValues (expressions (items (unit_parts unit))) (walked turns answers (items (unit_parts unit)) (first_walk scopes)).values.told
  unit-values = subst (AreValues (expressions (items (unit_parts unit)))) (sym unit-told.told) unit-told.are

  pub constant-told : list_any of_constant (expressions (items (unit_parts unit))) ≡ true → IsSome (walked turns answers (items (unit_parts unit)) (first_walk scopes)).values.constant
  constant-told = unit-told.constant

-- ---- constants

any-behind : (xs ys : List (Purpose × Expression)) → list_any of_constant ys ≡ true → list_any of_constant (xs ++ ys) ≡ true
any-behind [] ys h = h
any-behind (x ∷ xs) ys h =
    elim (of_constant x) as (λ b. (b || list_any of_constant (xs ++ ys)) ≡ true) [ true ↦ refl | false ↦ any-behind xs ys h ]

-- behind other parts
parts-behind : (p q : Parts) → list_any of_constant (expressions (items q)) ≡ true → list_any of_constant (expressions (items (p ++ q))) ≡ true
parts-behind p q h =
    ap (λ es. list_any of_constant es) (ap expressions (map-append item_of p q) ∙ flat_map-append expression_at (items p) (items q))
    ∙ any-behind (expressions (items p)) (expressions (items q)) h

constant-has : (c : Constant) → list_any of_constant (expressions (items (unit_parts (tree.Constant c)))) ≡ true
unfolding unit_parts
constant-has c =
    let types = constant_type_parts c.kind in
    let end : Parts = ValueEnds purpose.Constant c.value ∷ [] in
    let q : Parts = punctuation mark.Semicolon ∷ [] in
    let told : Parts = Declares declaration.Constant c.name ∷ punctuation mark.Equals ∷ value_parts purpose.Constant c.value in
    let last : list_any of_constant (expressions (items ((expression_parts c.value ++ end) ++ q))) ≡ true =
    subst (λ p. list_any of_constant (expressions (items p)) ≡ true) (sym (append_assoc (expression_parts c.value) end q)) (parts-behind (expression_parts c.value) (end ++ q) refl) in
    subst (λ p. list_any of_constant (expressions (items p)) ≡ true) (sym (append_assoc types told q)) (parts-behind types (told ++ q) last)

pub constant-valued : (turns : ℕ) (answers : Key → Option Answer) (c : Constant) (scopes : List Scope) → site_faults turns answers (items (unit_parts (tree.Constant c))) (first_walk scopes) ≡ []
    → IsSome (walked turns answers (items (unit_parts (tree.Constant c))) (first_walk scopes)).values.constant
constant-valued turns answers c scopes none = constant-told turns answers (tree.Constant c) scopes none (constant-has c)
