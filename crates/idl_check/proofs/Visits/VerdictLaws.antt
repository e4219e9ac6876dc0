-- What comes of a unit: its least fault and what a faulty unit does, or what all its sites come to.
use Rattle.std.proofs.Common.{◌≡◌, ◌∙◌, ℕ, suc, ◌-◌, ◌<◌, List, [], ◌∷◌, length, Option, Some, None, Result, Ok, Err, refl, sym, ap, subst, arith, inl, inr}
use Rattle.std.specs.Prelude.{◌≢◌, ◌⊎◌, fold, max}
use Rattle.std.proofs.lemmas.List.{length-map}
use Rattle.idl_check.specs.walk.AllFaults.{or_else}
use Rattle.idl_check.specs.walk.Placing.{faulty_step, opened_kind, opening_faults, place_faults, step_of}
use Rattle.idl_check.specs.tables.Rules.{is_misplaced}
use Rattle.idl_check.specs.walk.Judging.{IsSound, refused_keys}
use Rattle.idl_check.specs.walk.Verdict.{asking, by_names, by_tree, faulty, first_faults, judged, placed_walk, refused, sound, tree_by, tree_of, verdict, whole}
use Rattle.idl_check.specs.walk.Walk.{Walk, first_walk, noted, walk}
use Rattle.idl_check.specs.declared.walk.verdict.Verdict.{Verdict}
use Rattle.idl_fault.specs.declared.code.Code.TheVariants.{NoTree, MisplacedUnit}
use Rattle.idl_lex.specs.tokens.Tokens.{Token}
use Rattle.idl_memo.specs.Query.{Done, Ask, asked, outcome}
use Rattle.idl_memo.proofs.QueryLaws.{outcome-and_then}
use Rattle.idl_env.specs.Facts.{path_around, scopes_in}
use Rattle.idl_scope.specs.Lookup.{Lookup}
use Rattle.idl_env.specs.declared.additions.addition.Step.{Step}
use Rattle.idl_env.specs.declared.additions.addition.Step.TheVariants.{Stays}
use Rattle.idl_env.specs.declared.answering.answer.Answer.{Answer}
use Rattle.idl_env.specs.declared.answering.answer.Scope.{Scope}
use Rattle.idl_env.specs.declared.keys.key.Key.{Key}
use Rattle.idl_env.specs.declared.keys.key.Key.TheVariants.{Cursor, Nameless}
use Rattle.idl_entity.specs.declared.kind.Kind.{Kind}
use Rattle.idl_parts.specs.Item.{items}
use Rattle.idl_parts.specs.UnitParts.{unit_parts}
use Rattle.idl_tree.specs.Lexeme.{Lexeme, lexeme_of, lexemes}
use Rattle.idl_tree.specs.reading.ReadUnit.{unit_at}
use Rattle.idl_tree.specs.Unit.{spell}
use Rattle.idl_tree.specs.declared.unit.Tree.{Tree}
use Rattle.idl_tree.proofs.ReadAgain.UnitAgain.{unit_again}
use Rattle.idl_parse.proofs.Stops.{some-left, stops-at, stops-once}
use Rattle.idl_parse.specs.Parse.{StopsAt}
use Rattle.idl_tree.proofs.UnitWhole.{unit_fault, unit_found, unit_rest}
use Rattle.idl_unit.specs.Faults.{least_fault, lesser_fault}
use Rattle.idl_unit.specs.TokenRules.{fault_at, token_faults}
use Rattle.idl_unit.specs.declared.fault.Fault.{Fault}
use Rattle.idl_unit.specs.declared.unit.UnitText.TheVariants as unit
use Rattle.idl_check.specs.tables.Codes.{codes_in}
use Rattle.idl_check.proofs.Faults.NotedLemmas.{noted-append}
use Rattle.idl_check.proofs.Faults.TableLaws.{no-codes, no-row}
use Rattle.idl_check.proofs.Visits.ApartLaws.{faults-apart, with_fault}
use Rattle.idl_check.proofs.Visits.WalkLaws.{none-append, none-noted, walk-noted, walk-sound}
use Rattle.idl_check.proofs.Visits.WholeLaws.{none-whole}
use Rattle.idl_check.proofs.Faults.VisitFaults.{visit_faults, visit_further_faults, visit_name_faults, visit_unit_faults}

-- ---- the tree of tokens

whole-Ok : (count : ℕ) (r : Result (Tree × List Lexeme) ℕ) (tree : Tree) → whole count r ≡ Ok tree → r ≡ Ok (tree, [])
whole-Ok count (Ok (t, [])) tree h = let same : t ≡ tree = cc in ap (λ x. Ok (x, [])) same
whole-Ok count (Ok (t, x ∷ xs)) tree h = cc
whole-Ok count (Err left) tree h = cc

-- a reading may take more levels than there are tokens
tokens-below : (tokens : List Token) → length (lexemes tokens) < suc (length tokens)
tokens-below tokens = omega (arith, length-map tokens lexeme_of)

-- it is the one that they spell
pub tree-spelled : (tokens : List Token) (tree : Tree) → tree_of tokens ≡ Ok tree → lexemes tokens ≡ spell tree
tree-spelled tokens tree h =
    unit_found (suc (length tokens)) (lexemes tokens) tree (tokens-below tokens) (whole-Ok (length tokens) (unit_at (suc (length tokens)) (lexemes tokens)) tree h)

pub spelled-tree : (tokens : List Token) (tree : Tree) → lexemes tokens ≡ spell tree → tree_of tokens ≡ Ok tree
spelled-tree tokens tree h =
    let below : length (spell tree) < suc (length tokens) = omega (arith, length-map tokens lexeme_of, ap length h) in
    ap (λ ts. whole (length tokens) (unit_at (suc (length tokens)) ts)) h ∙ ap (whole (length tokens)) (unit_again tree (suc (length tokens)) below)

-- ---- where they have none

stops-by : (tokens : List Token) (r : Result (Tree × List Lexeme) ℕ) → unit_at (suc (length tokens)) (lexemes tokens) ≡ r
    → (place : ℕ) → whole (length tokens) r ≡ Err place → StopsAt tokens place
stops-by tokens (Ok (t, [])) is place h = absurd cc
stops-by tokens (Ok (t, x ∷ xs)) is place h =
    let left = length (x ∷ xs) in
    let same : length tokens - left ≡ place = cc in
    subst (StopsAt tokens) same
    (stops-at tokens left (unit_rest (suc (length tokens)) (lexemes tokens) t x xs (tokens-below tokens) is) left (some-left left (omega arith)))
stops-by tokens (Err left) is place h =
    let same : length tokens - max left 1 ≡ place = cc in
    subst (StopsAt tokens) same (stops-at tokens left (unit_fault (suc (length tokens)) (lexemes tokens) left (tokens-below tokens) is) (max left 1) refl)

-- there they stop
pub tree-stops : (tokens : List Token) (place : ℕ) → tree_of tokens ≡ Err place → StopsAt tokens place
tree-stops tokens place h = stops-by tokens (unit_at (suc (length tokens)) (lexemes tokens)) refl place h

stopped-by : (tokens : List Token) (place : ℕ) → StopsAt tokens place → (r : Result Tree ℕ) → tree_of tokens ≡ r → r ≡ Err place
stopped-by tokens place h (Ok tree) is = absurd (h.0 tree (tree-spelled tokens tree is))
stopped-by tokens place h (Err at) is = ap Err (stops-once tokens at place (tree-stops tokens at is) h)

-- and where they stop, they have none
pub stopped-tree : (tokens : List Token) (place : ℕ) → StopsAt tokens place → tree_of tokens ≡ Err place
stopped-tree tokens place h = stopped-by tokens place h (tree_of tokens) refl

module _ (turns : ℕ) (answers : Key → Option Answer) (tokens : List Token) where
  -- ---- a refused unit

  -- by what it opens
  abbrev refused_by : Fault → Option Kind → Lookup Verdict
  refused_by fault o =
      elim o [
        | None ↦ Done (faulty fault (faulty_step tokens))
        | Some kind ↦ Ask Nameless (λ count. Done (faulty fault (faulty_step tokens)))
      ]

  is-refused : (fault : Fault) (o : Option Kind) → outcome (refused_by fault o) answers ≡ faulty fault (faulty_step tokens)
  is-refused fault None = refl
  is-refused fault (Some kind) = refl

  refused-is : (fault : Fault) → outcome (refused tokens fault) answers ≡ faulty fault (faulty_step tokens)
  refused-is fault = is-refused fault (opened_kind tokens)

  asks-refused : (fault : Fault) (o : Option Kind) → asked (refused_by fault o) answers ≡ elim o [ None ↦ [] | Some kind ↦ Nameless ∷ [] ]
  asks-refused fault None = refl
  asks-refused fault (Some kind) = refl

  refused-asks : (fault : Fault) → asked (refused tokens fault) answers ≡ refused_keys tokens
  refused-asks fault = asks-refused fault (opened_kind tokens)

  -- ---- a unit with a tree

  asking-is : (step : Step) (v : Verdict) → outcome (asking step v) answers ≡ v
  asking-is Stays v = refl
  asking-is other v = refl

  -- by the fault of a walk
  abbrev judged_by : List Scope → Tree → Walk → Option Fault → Lookup Verdict
  judged_by scopes tree w o =
      elim o [
        | Some fault ↦ refused tokens fault
        | None ↦ asking (step_of tree (path_around scopes)) (sound tokens scopes tree w)
      ]

  judged-some : (scopes : List Scope) (tree : Tree) (w : Walk) (f : Fault) (o : Option Fault) → o ≡ Some f → outcome (judged_by scopes tree w o) answers ≡ faulty f (faulty_step tokens)
  judged-some scopes tree w f None h = cc
  judged-some scopes tree w f (Some g) h = let same : g ≡ f = cc in refused-is g ∙ ap (λ x. faulty x (faulty_step tokens)) same

  judged-none : (scopes : List Scope) (tree : Tree) (w : Walk) (o : Option Fault) → o ≡ None → outcome (judged_by scopes tree w o) answers ≡ sound tokens scopes tree w
  judged-none scopes tree w None h = asking-is (step_of tree (path_around scopes)) (sound tokens scopes tree w)
  judged-none scopes tree w (Some g) h = cc

  -- what comes of the unit, of which these are the faults: the least of them, or what all its sites come to
  abbrev pub Comes : List Fault → List Scope → Verdict → Type 0
  Comes faults scopes v =
      ((f : Fault) × (v ≡ faulty f (faulty_step tokens)) × (least_fault faults ≡ Some f))
      ⊎ (IsSound turns answers scopes tokens v × (faults ≡ []))

  module _ (scopes : List Scope) (rules : token_faults tokens ≡ []) (opening : opening_faults tokens scopes ≡ []) where
    module _ (tree : Tree) (spelled : lexemes tokens ≡ spell tree) where
      -- its fault is the least, that of its place among them
      walked-least : (w : Walk) → w ≡ outcome (walk turns (items (unit_parts tree)) (placed_walk scopes tree)) answers → w.fault ≡ least_fault (visit_name_faults turns answers scopes tree)
      walked-least w is =
          let sites = items (unit_parts tree) in
          let known = least_fault (place_faults tree scopes) in
          ap (λ (u : Walk). u.fault) is
          ∙ walk-noted turns answers sites (placed_walk scopes tree)
          ∙ ap (noted known) (faults-apart turns answers known sites (first_walk scopes))
          ∙ noted-append None (place_faults tree scopes) (visit_faults turns answers sites (first_walk scopes))

      walked-comes : (w : Walk) → w ≡ outcome (walk turns (items (unit_parts tree)) (placed_walk scopes tree)) answers → (o : Option Fault) → w.fault ≡ o
          → Comes (visit_name_faults turns answers scopes tree) scopes (outcome (judged tokens scopes tree w) answers)
      walked-comes w is (Some f) h = inl (f, judged-some scopes tree w f w.fault h, sym (walked-least w is) ∙ h)
      walked-comes w is None h =
          let sites = items (unit_parts tree) in
          let fs = visit_faults turns answers sites (first_walk scopes) in
          let empty = none-noted (visit_name_faults turns answers scopes tree) (sym (walked-least w is) ∙ h) in
          let parts = none-append (place_faults tree scopes) fs empty in
          let first : placed_walk scopes tree ≡ first_walk scopes = ap (λ fs. with_fault (least_fault fs) (first_walk scopes)) parts.0 in
          inr (
            record {
              tree = tree;
              rules = rules;
              opening = opening;
              spelled = spelled;
              placed = (no-row (is_misplaced tree scopes) MisplacedUnit [] (no-codes 0 (codes_in ((is_misplaced tree scopes, MisplacedUnit) ∷ [])) parts.0)).0;
              named = none-whole turns answers sites (first_walk scopes) parts.1;
              is =
                  judged-none scopes tree w w.fault h
                  ∙ ap (sound tokens scopes tree) (is ∙ ap (λ u. outcome (walk turns sites u) answers) first ∙ walk-sound turns answers sites (first_walk scopes) refl parts.1);
            },
            empty,
          )

      named-comes : Comes (visit_name_faults turns answers scopes tree) scopes (outcome (by_names turns tokens scopes tree) answers)
      named-comes =
          let query = walk turns (items (unit_parts tree)) (placed_walk scopes tree) in
          let w = outcome query answers in
          subst (Comes (visit_name_faults turns answers scopes tree) scopes)
          (sym (outcome-and_then query (λ w. judged tokens scopes tree w) answers))
          (walked-comes w refl w.fault refl)

    -- by its tree
    tree-comes : (r : Result Tree ℕ) → tree_of tokens ≡ r
        → Comes (elim r [ Err place ↦ fault_at place NoTree ∷ [] | Ok tree ↦ visit_name_faults turns answers scopes tree ]) scopes
        (outcome (by_tree turns tokens scopes (tree_by None r)) answers)
    tree-comes (Err place) h = inl (fault_at place NoTree, refused-is (fault_at place NoTree), refl)
    tree-comes (Ok tree) h = named-comes tree (tree-spelled tokens tree h)

  -- by the faults of the first step
  first-comes : (scopes : List Scope) (fs : List Fault) → first_faults tokens scopes ≡ fs
      → Comes (or_else turns answers fs (visit_further_faults turns answers tokens scopes)) scopes
      (outcome (by_tree turns tokens scopes (tree_by (least_fault fs) (tree_of tokens))) answers)
  first-comes scopes [] h =
      let none = none-append (token_faults tokens) (opening_faults tokens scopes) h in
      tree-comes scopes none.0 none.1 (tree_of tokens) refl
  first-comes scopes (f ∷ fs) h = inl (fold lesser_fault f fs, refused-is (fold lesser_fault f fs), refl)

  pub verdict-comes : Comes (visit_unit_faults turns answers (unit.Tokens tokens)) (scopes_in (answers Cursor)) (outcome (verdict turns (unit.Tokens tokens)) answers)
  unfolding verdict
  verdict-comes = first-comes (scopes_in (answers Cursor)) (first_faults tokens (scopes_in (answers Cursor))) refl

  -- ---- what follows

  least-comes : (faults : List Fault) (scopes : List Scope) (v : Verdict) → Comes faults scopes v → v.fault ≡ least_fault faults
  least-comes faults scopes v (inl c) = ap (λ (x : Verdict). x.fault) c.1 ∙ sym c.2
  least-comes faults scopes v (inr c) = ap (λ (x : Verdict). x.fault) c.0.is ∙ sym (ap least_fault c.1)

  refused-comes : (faults : List Fault) (scopes : List Scope) (v : Verdict) → Comes faults scopes v → (f : Fault) → v.fault ≡ Some f → v ≡ faulty f (faulty_step tokens)
  refused-comes faults scopes v (inl c) f h =
      let told : v.fault ≡ Some c.0 = ap (λ (x : Verdict). x.fault) c.1 in
      let same : c.0 ≡ f = cc in
      c.1 ∙ ap (λ g. faulty g (faulty_step tokens)) same
  refused-comes faults scopes v (inr c) f h = let told : v.fault ≡ None = ap (λ (x : Verdict). x.fault) c.0.is in cc

  sound-comes : (faults : List Fault) (scopes : List Scope) (v : Verdict) → Comes faults scopes v → v.fault ≡ None → IsSound turns answers scopes tokens v
  sound-comes faults scopes v (inl c) h = let told : v.fault ≡ Some c.0 = ap (λ (x : Verdict). x.fault) c.1 in cc
  sound-comes faults scopes v (inr c) h = c.0

  -- a faulty unit
  pub faulty-is : (f : Fault) → (outcome (verdict turns (unit.Tokens tokens)) answers).fault ≡ Some f → outcome (verdict turns (unit.Tokens tokens)) answers ≡ faulty f (faulty_step tokens)
  faulty-is = refused-comes (visit_unit_faults turns answers (unit.Tokens tokens)) (scopes_in (answers Cursor)) (outcome (verdict turns (unit.Tokens tokens)) answers) verdict-comes

  -- and one without fault
  pub sound-is : (outcome (verdict turns (unit.Tokens tokens)) answers).fault ≡ None → IsSound turns answers (scopes_in (answers Cursor)) tokens (outcome (verdict turns (unit.Tokens tokens)) answers)
  sound-is = sound-comes (visit_unit_faults turns answers (unit.Tokens tokens)) (scopes_in (answers Cursor)) (outcome (verdict turns (unit.Tokens tokens)) answers) verdict-comes

  pub least-tokens : (outcome (verdict turns (unit.Tokens tokens)) answers).fault ≡ least_fault (visit_unit_faults turns answers (unit.Tokens tokens))
  least-tokens = least-comes (visit_unit_faults turns answers (unit.Tokens tokens)) (scopes_in (answers Cursor)) (outcome (verdict turns (unit.Tokens tokens)) answers) verdict-comes

  -- ---- what a unit asks that the first two steps refuse

  tree-asks : (scopes : List Scope) (r : Result Tree ℕ) → tree_of tokens ≡ r → ((tree : Tree) → lexemes tokens ≢ spell tree)
      → asked (by_tree turns tokens scopes (tree_by None r)) answers ≡ refused_keys tokens
  tree-asks scopes (Err place) is none = refused-asks (fault_at place NoTree)
  tree-asks scopes (Ok tree) is none = absurd (none tree (tree-spelled tokens tree is))

  first-asks : (scopes : List Scope) (fs : List Fault) → (fs ≡ [] → (tree : Tree) → lexemes tokens ≢ spell tree)
      → asked (by_tree turns tokens scopes (tree_by (least_fault fs) (tree_of tokens))) answers ≡ refused_keys tokens
  first-asks scopes [] h = tree-asks scopes (tree_of tokens) refl (h refl)
  first-asks scopes (f ∷ fs) h = refused-asks (fold lesser_fault f fs)

  pub verdict-asks : (first_faults tokens (scopes_in (answers Cursor)) ≡ [] → (tree : Tree) → lexemes tokens ≢ spell tree) → asked (verdict turns (unit.Tokens tokens)) answers ≡ Cursor ∷ refused_keys tokens
  unfolding verdict
  verdict-asks h = ap (λ ks. Cursor ∷ ks) (first-asks (scopes_in (answers Cursor)) (first_faults tokens (scopes_in (answers Cursor))) h)

  -- ---- what is told of one that stops

  stop-tells : (scopes : List Scope) (place : ℕ) (r : Result Tree ℕ) → r ≡ Err place
      → outcome (by_tree turns tokens scopes (tree_by None r)) answers ≡ faulty (fault_at place NoTree) (faulty_step tokens)
  stop-tells scopes place (Err at) h = let same : at ≡ place = cc in refused-is (fault_at at NoTree) ∙ ap (λ n. faulty (fault_at n NoTree) (faulty_step tokens)) same
  stop-tells scopes place (Ok tree) h = cc

  first-tells : (scopes : List Scope) (place : ℕ) (fs : List Fault) → fs ≡ [] → tree_of tokens ≡ Err place
      → outcome (by_tree turns tokens scopes (tree_by (least_fault fs) (tree_of tokens))) answers ≡ faulty (fault_at place NoTree) (faulty_step tokens)
  first-tells scopes place [] none h = stop-tells scopes place (tree_of tokens) h
  first-tells scopes place (f ∷ fs) none h = cc

  pub verdict-tells : (place : ℕ) → first_faults tokens (scopes_in (answers Cursor)) ≡ [] → StopsAt tokens place
      → (outcome (verdict turns (unit.Tokens tokens)) answers).fault ≡ Some (fault_at place NoTree)
  unfolding verdict
  verdict-tells place none stops =
      let scopes = scopes_in (answers Cursor) in
      ap (λ (v : Verdict). v.fault) (first-tells scopes place (first_faults tokens scopes) none (stopped-tree tokens place stops))
