-- Over the sites of a unit, which are bracketed, the walk asks what the table tells.
use Rattle.std.proofs.Common.{◌≡◌, ◌⊎◌, ◌∙◌, ℕ, ◌+◌, ◌≤◌, min, Bool, true, false, cond, List, [], ◌∷◌, ◌++◌, Option, Some, None, refl, sym, ap, subst, arith, inl, inr}
use Rattle.std.proofs.lemmas.List.Elements.{All-head, All-tail, All-weaker}
use Rattle.std.specs.Prelude.{All, flat_map}
use Rattle.idl_asked.proofs.CutAsks.{cut-limit, cut-rest, cut-site, looked-past}
use Rattle.idl_asked.proofs.WalkAsks.{Above, Below, IsTable, begin-none, counted-own, ends-table, goes-table, inside-within, known-not, known-so, limit-above, limit_of, next_of, not-past, noted-holds, noted-least, over-table, plain-within, spoken-within, whole-rest, whole-site}
use Rattle.idl_asked.specs.Units.{AsksAt, IsNotPast}
use Rattle.idl_check_laws.proofs.IdlCheck.Faults.FaultOrder.{all-at, least-in}
use Rattle.idl_check_laws.proofs.IdlCheck.Visits.ApartLaws.{with_fault}
use Rattle.idl_check_laws.proofs.IdlCheck.Visits.SiteLaws.{IsFrom, IsPlaced, Within, begin_before, spoken-begin, visit-placed, visited}
use Rattle.idl_check_laws.proofs.IdlCheck.Visits.WholeLaws.{single-begins}
use Rattle.idl_check_laws.proofs.IdlCheck.Visits.WalkLaws.{looked}
use Rattle.idl_check_laws.proofs.Nests.BracketLemmas.{value-sites}
use Rattle.idl_check_laws.proofs.Nests.Operands.{expression-singles}
use Rattle.idl_check_laws.proofs.Nests.UnitNesting.{unit-whole}
use Rattle.idl_check_laws.specs.idl_check.ids.Remarks.{purpose_of}
use Rattle.idl_check_laws.specs.idl_check.tables.Codes.{codes_in}
use Rattle.idl_check_laws.specs.idl_check.tables.Rules.{is_misplaced}
use Rattle.idl_check_laws.specs.idl_check.walk.Judging.{spoken_from, spoken_till}
use Rattle.idl_check_laws.specs.idl_check.walk.Placing.{place_faults}
use Rattle.idl_check_laws.specs.idl_check.walk.Sections.{IsFormed, Section, Single, Whole, is_single, section_sites}
use Rattle.idl_check_laws.specs.idl_check.walk.Verdict.{placed_walk}
use Rattle.idl_check_laws.specs.idl_check.walk.Walk.{Visit, Walk, begin_of, cut_name, is_known, is_over, looked_at, noted, noted_in, outcome_at, spoken_of, used, value_visit, visit}
use Rattle.idl_entity.specs.idl_tree.declared.name.ScopedName.{ScopedName}
use Rattle.idl_env.proofs.Membership.{either}
use Rattle.idl_env.specs.Facts.{UnitFacts, answers}
use Rattle.idl_env.specs.Turns.{turns_for}
use Rattle.idl_env.specs.declared.answering.answer.Answer.{Answer}
use Rattle.idl_env.specs.declared.answering.answer.Scope.{Scope}
use Rattle.idl_env.specs.declared.keys.key.Key.{Key}
use Rattle.idl_fault.specs.declared.code.Code.TheVariants.{MisplacedUnit}
use Rattle.idl_memo.specs.Query.{outcome}
use Rattle.idl_parts.specs.ExpressionParts.{expression_parts}
use Rattle.idl_parts.specs.Item.{Item, item_length, items}
use Rattle.idl_parts.specs.Part.{Part as item}
use Rattle.idl_parts.specs.UnitParts.{unit_parts}
use Rattle.idl_parts.specs.declared.part.Declaration.{Declaration}
use Rattle.idl_parts.specs.declared.part.Purpose.{Purpose}
use Rattle.idl_parts.specs.declared.part.Purpose.TheVariants as purpose
use Rattle.idl_parts.specs.declared.part.TextPurpose.{TextPurpose}
use Rattle.idl_parts.specs.declared.part.Use.{Use}
use Rattle.idl_scope.specs.Lookup.{Lookup}
use Rattle.idl_scope.specs.Meaning.{seen}
use Rattle.idl_tree.specs.declared.expression.Expression.{Expression}
use Rattle.idl_tree.specs.declared.unit.Tree.{Tree}
use Rattle.idl_unit.specs.declared.fault.Fault.{Fault}
use Rattle.idl_value.specs.declared.outcome.Outcome.{Outcome}
use Rattle.idl_value.specs.declared.outcome.Outcome.TheVariants as comes

-- an expression ends
value-none : (w : Walk) (way : Purpose) (o : Outcome) → (value_visit w way o).after.values.begin ≡ None
value-none w purpose.Bound (comes.Value v) = refl
value-none w purpose.Constant (comes.Value v) = refl
value-none w purpose.Length (comes.Value v) = refl
value-none w purpose.Label (comes.Value v) = refl
value-none w way (comes.Fault f) = refl
value-none w way comes.Told = refl

module _ (facts : List UnitFacts) (turns : ℕ) (enough_for : turns_for facts ≤ turns) where
  abbrev bank : Key → Option Answer
  bank = answers facts

  abbrev Table : List Item → Walk → Type 0
  Table sites w = IsTable facts turns enough_for sites w

  -- the fault so far stands at an earlier token or the next one; in an expression that began before, no fault stands before that
  abbrev Open : Walk → Type 0
  Open w = (w.values.begin ≡ None) ⊎ ((b : ℕ) × (w.values.begin ≡ Some b) × (b ≤ w.at) × Above b w.fault)

  -- how the walk goes on behind a site
  abbrev Goes : Item → List Item → Walk → Type 0
  Goes site sites w =
      (u : Walk) → Below u.at u.fault → w.at ≤ u.at → u.values.begin ≡ (visited turns bank site w).after.values.begin → ((b : ℕ) → u.values.begin ≡ Some b → Above (begin_of w) u.fault) → Table sites u

  begin-some : (w : Walk) (b : ℕ) → w.values.begin ≡ Some b → b ≤ w.at → begin_of w ≡ b
  begin-some w b some le = ap (λ o. begin_before o w.at) some ∙ (let same : min b w.at ≡ b = omega (arith, le) in same)

  -- no fault stands before what is asked next
  above-now : (w : Walk) → is_over w ≡ false → Open w → Above (begin_of w) w.fault
  above-now w is (inl none) = subst (λ n. Above n w.fault) (sym (begin-none w none)) (known-not w.fault w.values.begin w.at is none)
  above-now w is (inr o) = subst (λ n. Above n w.fault) (sym (begin-some w o.0 o.1 o.2)) o.3

  -- a site that is looked at whole
  module _ (site : Item) (w : Walk) where
    abbrev v : Visit
    v = visited turns (answers facts) site w

    abbrev after : Walk
    after = with_fault (noted w.fault (visited turns (answers facts) site w).faults) (visited turns (answers facts) site w).after

    below-next : Below w.at w.fault → Below after.at after.fault
    below-next near =
        let p : IsPlaced site w v = visit-placed turns (answers facts) site w in
        let past : v.after.at ≡ w.at + item_length site = p.passes in
        noted-holds (λ f. f.index ≤ v.after.at) w.fault v.faults (λ f known. let le = near f known in omega (arith, past, le))
        (All-weaker (Within (spoken_from site w) (spoken_till site w)) (λ f. f.index ≤ v.after.at) (λ f here. let lt = here.1 in omega (arith, past, lt)) v.faults p.within)

    above-next : Above (begin_of w) w.fault → Above (begin_of w) after.fault
    above-next above =
        let p : IsPlaced site w v = visit-placed turns (answers facts) site w in
        noted-holds (IsFrom (begin_of w)) w.fault v.faults above
        (All-weaker (Within (spoken_from site w) (spoken_till site w)) (IsFrom (begin_of w)) (λ f here. let le = here.0 in let from = spoken-begin site w in omega (arith, le, from)) v.faults p.within)

  whole-step : (site : Item) (sites : List Item) (w : Walk) → is_over w ≡ false → looked_at turns site w ≡ visit turns site w → Below w.at w.fault → Above (begin_of w) w.fault
      → ((token : ℕ) (k : Key) → AsksAt (seen w.own facts) site w token k → IsNotPast (limit_of facts turns enough_for (site ∷ sites) w) token) → Goes site sites w → Table (site ∷ sites) w
  whole-step site sites w is same near above within goes =
      let u = after site w in
      let p : IsPlaced site w (visited turns (answers facts) site w) = visit-placed turns (answers facts) site w in
      let past : u.at ≡ w.at + item_length site = p.passes in
      let next : next_of facts turns enough_for site w ≡ u = ap (λ (q : Lookup Visit). noted_in (outcome q (answers facts)) w.fault) same in
      goes-table facts turns enough_for site sites w is (whole-site facts turns enough_for (limit_of facts turns enough_for (site ∷ sites) w) site w same within)
      (whole-rest facts turns enough_for site sites w is same
      (subst (λ x. Table sites x) (sym next) (goes u (below-next site w near) (omega (arith, past)) refl (λ b some. above-next site w above))))

  -- ---- a used name

  -- by what is known at its first token
  looked-whole : (way : Use) (name : ScopedName) (w : Walk) → (purpose_of way ≡ None → is_known (w.at + 1) w ≡ false) → looked_at turns (item.Uses way name) w ≡ visit turns (item.Uses way name) w
  unfolding visit
  looked-whole way name w h = by_known (purpose_of way) (is_known (w.at + 1) w) h
    where
      by_known : (o : Option TextPurpose) (b : Bool) → (o ≡ None → b ≡ false)
          → (elim o as (λ _. Lookup Visit) [ None ↦ cond b (cut_name turns way name w) (used turns way name w) | Some p ↦ spoken_of turns p name w ])
          ≡ (elim o as (λ _. Lookup Visit) [ None ↦ used turns way name w | Some p ↦ spoken_of turns p name w ])
      by_known None true g = absurd (let no : true ≡ false = g refl in cc)
      by_known None false g = refl
      by_known (Some p) b g = refl

  -- none is known inside of expressions
  never-known : (w : Walk) (at b : ℕ) → w.values.begin ≡ Some b → is_known at w ≡ false
  never-known w at b some = by_test (either (is_known at w))
    where
      by_test : (is_known at w ≡ true) ⊎ (is_known at w ≡ false) → is_known at w ≡ false
      by_test (inl h) = absurd (let known = known-so w.fault w.values.begin at h in let no : Some b ≡ None = sym some ∙ known.3 in cc)
      by_test (inr h) = h

  -- and where none is known at the next token there is none
  clear-fault : (w : Walk) → Below w.at w.fault → w.values.begin ≡ None → is_known (w.at + 1) w ≡ false → w.fault ≡ None
  clear-fault w near none h = by_fault w.fault refl
    where
      by_fault : (o : Option Fault) → w.fault ≡ o → w.fault ≡ None
      by_fault None is = is
      by_fault (Some f) is = absurd (let le = near f is in let lt = known-not w.fault w.values.begin (w.at + 1) h none f is in omega (arith, le, lt))

  uses-step : (way : Use) (name : ScopedName) (sites : List Item) (w : Walk) → is_over w ≡ false → Below w.at w.fault → Open w → Goes (item.Uses way name) sites w → Table (item.Uses way name ∷ sites) w
  uses-step way name sites w is near unbroken goes = by_open unbroken
    where
      above : Above (begin_of w) w.fault
      above = above-now w is unbroken

      limit-at : Above (begin_of w) (limit_of facts turns enough_for (item.Uses way name ∷ sites) w)
      limit-at = limit-above facts turns enough_for (item.Uses way name) sites w above

      -- a fault is known at its first token
      cut-goes : purpose_of way ≡ None → w.values.begin ≡ None → is_known (w.at + 1) w ≡ true → (f : Fault) → w.fault ≡ Some f → f.index ≤ w.at → Table sites (next_of facts turns enough_for (item.Uses way name) w)
      cut-goes plain none known f some le =
          let faults = (looked turns (answers facts) (item.Uses way name) w).faults in
          let past = looked-past facts turns enough_for way name w plain none known in
          let far = past.0 in
          goes (next_of facts turns enough_for (item.Uses way name) w)
          (λ h same. let till = noted-least f faults h (ap (λ o. noted o faults) (sym some) ∙ same) in omega (arith, till, le, far))
          (omega (arith, far)) (past.1 ∙ sym (single-begins turns (answers facts) (item.Uses way name) w refl))
          (λ b begins. absurd (let no : Some b ≡ None = sym begins ∙ (past.1 ∙ none) in cc))

      cut-step : purpose_of way ≡ None → w.values.begin ≡ None → is_known (w.at + 1) w ≡ true → (f : Fault) → w.fault ≡ Some f → f.index ≤ w.at → Table (item.Uses way name ∷ sites) w
      cut-step plain none known f some le =
          let last = cut-limit facts turns enough_for way name w plain none sites f some le above in
          goes-table facts turns enough_for (item.Uses way name) sites w is
          (cut-site facts turns enough_for way name w plain none (limit_of facts turns enough_for (item.Uses way name ∷ sites) w) last.0 last.1 last.2 known)
          (cut-rest facts turns enough_for way name w plain none sites is known last.0 last.1 last.2 (cut-goes plain none known f some le))

      by_known : purpose_of way ≡ None → w.values.begin ≡ None → (is_known (w.at + 1) w ≡ true) ⊎ (is_known (w.at + 1) w ≡ false) → Table (item.Uses way name ∷ sites) w
      by_known plain none (inl known) = let so = known-so w.fault w.values.begin (w.at + 1) known in let lt = so.2 in cut-step plain none known so.0 so.1 (omega (arith, lt))
      by_known plain none (inr clear) =
          whole-step (item.Uses way name) sites w is (looked-whole way name w (λ _. clear)) near above
          (plain-within facts turns enough_for way name sites w plain none (clear-fault w near none clear)) goes

      by_purpose : w.values.begin ≡ None → (o : Option TextPurpose) → purpose_of way ≡ o → Table (item.Uses way name ∷ sites) w
      by_purpose none None plain = by_known plain none (either (is_known (w.at + 1) w))
      by_purpose none (Some p) some =
          whole-step (item.Uses way name) sites w is (looked-whole way name w (λ plain. absurd (let no : Some p ≡ None = sym some ∙ plain in cc))) near above
          (spoken-within facts turns enough_for (limit_of facts turns enough_for (item.Uses way name ∷ sites) w) way name w p some none limit-at) goes

      by_open : Open w → Table (item.Uses way name ∷ sites) w
      by_open (inl none) = by_purpose none (purpose_of way) refl
      by_open (inr o) =
          whole-step (item.Uses way name) sites w is (looked-whole way name w (λ plain. never-known w (w.at + 1) o.0 o.1)) near above
          (inside-within facts turns enough_for (limit_of facts turns enough_for (item.Uses way name ∷ sites) w) (item.Uses way name) w o.0 o.1 limit-at) goes

  -- ---- any site

  declared-within : (way : Declaration) (name : List ℕ) (limit : Option Fault) (w : Walk) → Open w → Above (begin_of w) limit → (token : ℕ) (k : Key) → AsksAt (seen w.own facts) (item.Declares way name) w token k → IsNotPast limit token
  declared-within way name limit w (inl none) above token k a =
      not-past limit (begin_of w) token above (let same = a.3 ∙ counted-own w w.at none in let here = begin-none w none in omega (arith, same, here))
  declared-within way name limit w (inr o) above token k a = inside-within facts turns enough_for limit (item.Declares way name) w o.0 o.1 above token k a

  on-step : (site : Item) (sites : List Item) (w : Walk) → is_over w ≡ false → Below w.at w.fault → Open w → Goes site sites w → Table (site ∷ sites) w
  on-step (item.Uses way name) sites w is near unbroken goes = uses-step way name sites w is near unbroken goes
  on-step (item.Declares way name) sites w is near unbroken goes =
      whole-step (item.Declares way name) sites w is refl near (above-now w is unbroken)
      (declared-within way name (limit_of facts turns enough_for (item.Declares way name ∷ sites) w) w unbroken (limit-above facts turns enough_for (item.Declares way name) sites w (above-now w is unbroken))) goes
  on-step other sites w is near unbroken goes = whole-step other sites w is refl near (above-now w is unbroken) (λ token k a. absurd a) goes

  step : (site : Item) (sites : List Item) (w : Walk) → Below w.at w.fault → Open w → Goes site sites w → Table (site ∷ sites) w
  step site sites w near unbroken goes = by_over (either (is_over w))
    where
      by_over : (is_over w ≡ true) ⊎ (is_over w ≡ false) → Table (site ∷ sites) w
      by_over (inl over) = over-table facts turns enough_for site sites w over
      by_over (inr is) = on-step site sites w is near unbroken goes

  -- ---- sections

  -- a site beside expressions or in one leaves it so
  open-next : (w u : Walk) → Open w → w.at ≤ u.at → u.values.begin ≡ w.values.begin → ((b : ℕ) → u.values.begin ≡ Some b → Above (begin_of w) u.fault) → Open u
  open-next w u (inl none) le begins above = inl (begins ∙ none)
  open-next w u (inr o) le begins above =
      let here = o.2 in
      inr (o.0, begins ∙ o.1, omega (arith, le, here), subst (λ n. Above n u.fault) (begin-some w o.0 o.1 o.2) (above o.0 (begins ∙ o.1)))

  singles : (front sites : List Item) → All (λ x. is_single x ≡ true) front → (w : Walk) → Below w.at w.fault → Open w
      → ((u : Walk) → Below u.at u.fault → Open u → u.values.begin ≡ w.values.begin → Table sites u) → Table (front ++ sites) w
  singles [] sites all w near unbroken more = more w near unbroken refl
  singles (x ∷ front) sites all w near unbroken more =
      let begins = single-begins turns bank x w (All-head (λ x. is_single x ≡ true) x front all) in
      step x (front ++ sites) w near unbroken
      (λ u near_u le same above. singles front sites (All-tail (λ x. is_single x ≡ true) x front all) u near_u (open-next w u unbroken le (same ∙ begins) above)
      (λ t near_t open_t back. more t near_t open_t (back ∙ same ∙ begins)))

  begins-step : (sites : List Item) (w : Walk) → Below w.at w.fault → w.values.begin ≡ None → ((u : Walk) → Below u.at u.fault → Open u → Table sites u) → Table (item.ValueBegins ∷ sites) w
  unfolding visit
  begins-step sites w near none more =
      step item.ValueBegins sites w near (inl none)
      (λ u near_u le same above. more u near_u (inr (w.at, same, le, subst (λ n. Above n u.fault) (begin-none w none) (above w.at same))))

  ends-step : (way : Purpose) (e : Expression) (sites : List Item) (w : Walk) → Below w.at w.fault → Open w → ((u : Walk) → Below u.at u.fault → u.values.begin ≡ None → Table sites u) → Table (item.ValueEnds way e ∷ sites) w
  unfolding visit
  ends-step way e sites w near unbroken more = step (item.ValueEnds way e) sites w near unbroken (λ u near_u le same above. more u near_u (same ∙ value-none w way (outcome_at w way e)))

  sections-table : (sections : List Section) → All IsFormed sections → (w : Walk) → Below w.at w.fault → w.values.begin ≡ None → Table (flat_map section_sites sections) w
  sections-table [] formed w near none = ends-table facts turns enough_for w
  sections-table (Single site ∷ sections) formed w near none =
      let single = All-head IsFormed (Single site) sections formed in
      step site (flat_map section_sites sections) w near (inl none)
      (λ u near_u le same above. sections-table sections (All-tail IsFormed (Single site) sections formed) u near_u (same ∙ single-begins turns bank site w single ∙ none))
  sections-table (Whole way e ∷ sections) formed w near none =
      let rest = flat_map section_sites sections in
      let front = items (expression_parts e) in
      subst (λ xs. Table xs w) (sym (value-sites way e rest))
      (begins-step (front ++ item.ValueEnds way e ∷ rest) w near none
      (λ u near_u open_u. singles front (item.ValueEnds way e ∷ rest) (expression-singles e) u near_u open_u
      (λ t near_t open_t same. ends-step way e rest t near_t open_t (λ last near_last over. sections-table sections (All-tail IsFormed (Whole way e) sections formed) last near_last over))))

  -- the sites of a tree, with what is wrong with its place
  pub tree-table : (scopes : List Scope) (tree : Tree) → Table (items (unit_parts tree)) (placed_walk scopes tree)
  tree-table scopes tree =
      let b = (unit-whole tree).bracketed in
      subst (λ xs. Table xs (placed_walk scopes tree)) (sym b.are)
      (sections-table b.sections b.formed (placed_walk scopes tree)
      (λ f is. least-in (λ g. g.index ≤ 0) (place_faults tree scopes) f (all-at (λ g. g.index ≤ 0) 0 (λ c. omega arith) (codes_in ((is_misplaced tree scopes, MisplacedUnit) ∷ []))) is) refl)
