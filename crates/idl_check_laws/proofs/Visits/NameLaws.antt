-- The names of a unit, beside the walk over its sites.
use Rattle.std.proofs.Common.{◌≡◌, ◌∙◌, ◌+◌, ◌<◌, ℕ, Bool, true, false, cond, List, [], ◌∷◌, ◌++◌, length, slice_get, Option, None, Some, Result, Ok, Err, refl, sym, ap, subst, append_assoc, append-nil, arith}
use Rattle.std.proofs.lemmas.List.Elements.{All-append, All-cons, All-nil, All-weaker}
use Rattle.std.specs.Prelude.{All}
use Rattle.std.specs.Option.{option_map}
use Rattle.idl_check.proofs.Faults.CutLaws.{cut}
use Rattle.idl_check.proofs.Faults.VisitFaults.{visit_faults}
use Rattle.idl_check.proofs.PartLemmas.{IsUpTo}
use Rattle.idl_check.proofs.Visits.ApartLaws.{with_fault}
use Rattle.idl_check.proofs.Visits.JudgeLemmas.{sites-length, tree-read, unit_tree-spelled}
use Rattle.idl_check.proofs.Visits.NamesLemmas.{names-end, names-on, names-treed}
use Rattle.idl_check.proofs.Visits.SiteLaws.{any-placed, denoted-up, end_visit, plain-placed, spoken_by, used_by, visit-placed, visited}
use Rattle.idl_check.proofs.Visits.VerdictLaws.{sound-is, spelled-tree}
use Rattle.idl_check.proofs.Visits.WalkLaws.{looked-whole, none-append, not-over}
use Rattle.idl_check.proofs.Visits.WholeLaws.{whole-none}
use Rattle.idl_check.specs.ids.Remarks.{purpose_of, remark}
use Rattle.idl_check.specs.tables.Codes.{faults_by}
use Rattle.idl_check.specs.told.Types.{looked_through}
use Rattle.idl_check.specs.walk.Held.{visited as kept}
use Rattle.idl_check.specs.walk.Judging.{IsSound, walked}
use Rattle.idl_check.specs.walk.Names.{declared_as, declared_paths, named, names_at, site_names, token_names, tree_names, unit_names, used_as, used_paths}
use Rattle.idl_check.specs.walk.Verdict.{placed_walk, unit_tree, verdict}
use Rattle.idl_check.specs.walk.Walk.{Visit, Walk, cut_name, first_walk, head_of, head_visit, is_known, is_over, looked_at, noted, noted_in, outcome_at, plain_name, spoken_of, spoken_visit, turns_at, used, used_visit, value_visit, visit}
use Rattle.idl_check.specs.declared.walk.names.NamedSite.{NamedSite}
use Rattle.idl_check.specs.declared.walk.names.NameRole.{NameRole}
use Rattle.idl_check.specs.declared.walk.names.NameRole.TheVariants.{Declared, Used}
use Rattle.idl_check.specs.declared.walk.verdict.Verdict.{Verdict}
use Rattle.idl_check_laws.proofs.Visits.RowLaws.{declared-found, end-found, unfound-faulty, valued-found}
use Rattle.idl_entity.specs.declared.entity.Entity.{Entity}
use Rattle.idl_env.specs.Facts.{scopes_in}
use Rattle.idl_env.specs.declared.answering.answer.Answer.{Answer}
use Rattle.idl_env.specs.declared.answering.answer.Scope.{Scope}
use Rattle.idl_env.specs.declared.keys.key.Key.{Key}
use Rattle.idl_env.specs.declared.keys.key.Key.TheVariants.{Cursor}
use Rattle.idl_fault.specs.declared.code.Code.TheVariants.{MisplacedUnit}
use Rattle.idl_lex.specs.tokens.Tokens.{Token}
use Rattle.idl_memo.proofs.QueryLaws.{outcome-and_then}
use Rattle.idl_memo.specs.Query.{Done, outcome}
use Rattle.idl_parts.specs.Item.{Item, item_length, items, items_length}
use Rattle.idl_parts.specs.Part.{Part as item}
use Rattle.idl_parts.specs.UnitParts.{unit_parts}
use Rattle.idl_parts.specs.declared.part.TextPurpose.{TextPurpose}
use Rattle.idl_parts.specs.declared.part.Use.{Use}
use Rattle.idl_scope.specs.Lookup.{Lookup, denoted, under}
use Rattle.idl_scope.specs.declared.fault.NameFault.{NameFault}
use Rattle.idl_scope.specs.declared.fault.NameFault.TheVariants.{At, Memory}
use Rattle.idl_scope.specs.declared.found.Found.{Found}
use Rattle.idl_tree.proofs.NameLemmas.{behind_name}
use Rattle.idl_tree.specs.Lexeme.{lexemes}
use Rattle.idl_tree.specs.NameParts.{last_at}
use Rattle.idl_tree.specs.Unit.{spell}
use Rattle.idl_tree.specs.declared.name.ScopedName.{ScopedName}
use Rattle.idl_tree.specs.declared.unit.Tree.{Tree}
use Rattle.idl_unit.specs.Faults.{least_fault}
use Rattle.idl_unit.specs.TokenRules.{first as first_of}
use Rattle.idl_unit.specs.declared.fault.Fault.{Fault}
use Rattle.idl_unit.specs.declared.unit.UnitText.TheVariants as unit

-- ---- paths of names

pub declared-append : (xs ys : List NamedSite) → declared_paths (xs ++ ys) ≡ declared_paths xs ++ declared_paths ys
declared-append [] ys = refl
declared-append (x ∷ xs) ys =
    ap (λ ps. declared_as x.role x.path ++ ps) (declared-append xs ys) ∙ sym (append_assoc (declared_as x.role x.path) (declared_paths xs) (declared_paths ys))

used-append : (xs ys : List NamedSite) → used_paths (xs ++ ys) ≡ used_paths xs ++ used_paths ys
used-append [] ys = refl
used-append (x ∷ xs) ys =
    ap (λ ps. used_as x.role x.path ++ ps) (used-append xs ys) ∙ sym (append_assoc (used_as x.role x.path) (used_paths xs) (used_paths ys))

-- a declared name uses nothing
declared-unused : (n : ℕ) (o : Option (List (List ℕ))) → used_paths (named Declared n o) ≡ []
declared-unused n None = refl
declared-unused n (Some path) = refl

not-one : {X : Type 0} {x : X} → x ∷ [] ≡ [] → ⊥
not-one h = cc

slice_get-last : {X : Type 0} (xs : List X) (x : X) → slice_get (xs ++ x ∷ []) (length xs) ≡ Some x
slice_get-last [] x = refl
slice_get-last (y ∷ xs) x = slice_get-last xs x

-- ---- numbers

-- a name stands at a token of its site
abbrev Before : ℕ → NamedSite → Type 0
Before n name = name.index < n

named-before : (n m : ℕ) (role : NameRole) (o : Option (List (List ℕ))) → m < n → All (Before n) (named role m o)
named-before n m role None lt = All-nil (Before n)
named-before n m role (Some path) lt = All-cons (Before n) (record { index = m; role = role; path = path }) [] lt (All-nil (Before n))

at-before : (site : Item) (w after : Walk) → All (Before (w.at + item_length site)) (names_at site w after)
at-before (item.Declares way name) w after = named-before (w.at + 1) w.at Declared (option_map (λ e. e.path) after.last) (omega arith)
at-before (item.Uses way name) w after =
    named-before (w.at + item_length (item.Uses way name)) (last_at w.at name) Used (slice_get after.found (length w.found)) (omega (arith, behind_name w.at name))
at-before other w after = All-nil (Before (w.at + item_length other))

module _ (turns : ℕ) (answers : Key → Option Answer) where
  -- a name that is cut is passed whole
  cut-at : (way : Use) (name : ScopedName) (w : Walk) (is_global : Bool) (parts : List (List ℕ)) → (cut turns answers way name w is_global parts).after.at ≡ w.at + item_length (item.Uses way name)
  cut-at way name w true parts = behind_name w.at name
  cut-at way name w false [] = (plain-placed turns answers way name w).passes
  cut-at way name w false (part ∷ parts) =
      ap (λ (v : Visit). v.after.at) (outcome-and_then (under w.own (denoted (turns_at turns w) w.cursor (head_of name))) (λ r. Done (head_visit name w r)) answers)
      ∙ behind_name w.at name

  looked-at : (site : Item) (w : Walk) → (outcome (looked_at turns site w) answers).after.at ≡ w.at + item_length site
  unfolding visit cut_name
  looked-at (item.Uses way name) w = by_purpose (purpose_of way) refl (is_known (w.at + 1) w)
    where
      by_purpose : (o : Option TextPurpose) → purpose_of way ≡ o → (b : Bool)
          → (outcome {A = Visit} (elim o as (λ _. Lookup Visit) [ None ↦ cond b (cut_name turns way name w) (used turns way name w) | Some p ↦ spoken_of turns p name w ]) answers).after.at ≡ w.at + item_length (item.Uses way name)
      by_purpose (Some p) is b =
          subst (λ o. (outcome {A = Visit} (elim o as (λ _. Lookup Visit) [ None ↦ used turns way name w | Some p ↦ spoken_of turns p name w ]) answers).after.at ≡ w.at + item_length (item.Uses way name)) is (any-placed turns answers way name w).passes
      by_purpose None is true = cut-at way name w name.is_global name.rest
      by_purpose None is false = (plain-placed turns answers way name w).passes
  looked-at other w = (visit-placed turns answers other w).passes

  kept-at : (site : Item) (w : Walk) → (outcome (kept turns site w) answers).at ≡ w.at + item_length site
  kept-at site w =
      ap (λ (u : Walk). u.at) (outcome-and_then (looked_at turns site w) (λ v. Done (noted_in v w.fault)) answers) ∙ looked-at site w

  -- the walk behind a site
  abbrev after_site : Item → Walk → Walk
  after_site site w = outcome (kept turns site w) answers

  pub names-before : (sites : List Item) (w : Walk) → All (λ n. n.index < w.at + items_length sites) (site_names turns answers sites w)
  unfolding site_names
  names-before [] w = All-nil (Before (w.at + 0))
  names-before (site ∷ sites) w = by_over (names-before sites (after_site site w)) (is_over w)
    where
      by_over : All (Before ((after_site site w).at + items_length sites)) (site_names turns answers sites (after_site site w)) → (b : Bool)
          → All (Before (w.at + items_length (site ∷ sites))) (cond b [] (names_at site w (after_site site w) ++ site_names turns answers sites (after_site site w)))
      by_over more true = All-nil (Before (w.at + items_length (site ∷ sites)))
      by_over more false =
          let after = after_site site w in
          let n = w.at + items_length (site ∷ sites) in
          All-append (Before n) (names_at site w after) (site_names turns answers sites after)
          (All-weaker (Before (w.at + item_length site)) (Before n) (λ x lt. omega (arith, lt)) (names_at site w after) (at-before site w after))
          (All-weaker (Before (after.at + items_length sites)) (Before n) (λ x lt. omega (arith, lt, kept-at site w)) (site_names turns answers sites after) more)

  -- ---- the walk over the sites of a unit without fault

  -- a site leaves what comes of it
  sound-next : (site : Item) (w : Walk) → w.fault ≡ None → (visited turns answers site w).faults ≡ [] → outcome (kept turns site w) answers ≡ (visited turns answers site w).after
  sound-next site w none h =
      let v = visited turns answers site w in
      let kept_fault : v.after.fault ≡ None = (visit-placed turns answers site w).keeps ∙ none in
      let same : noted w.fault v.faults ≡ v.after.fault = ap (noted w.fault) h ∙ ap (λ o. noted o []) none ∙ sym kept_fault in
      outcome-and_then (looked_at turns site w) (λ v. Done (noted_in v w.fault)) answers
      ∙ ap (λ (u : Visit). noted_in u w.fault) (looked-whole turns answers site w none)
      ∙ ap (λ o. with_fault o v.after) same

  pub sound-names : (site : Item) (sites : List Item) (w : Walk) → w.fault ≡ None → (visited turns answers site w).faults ≡ []
      → site_names turns answers (site ∷ sites) w ≡ names_at site w (visited turns answers site w).after ++ site_names turns answers sites (visited turns answers site w).after
  sound-names site sites w none h =
      sym (names-on turns answers site sites w (visited turns answers site w).after (not-over w.fault w.values.begin w.at none) (sym (sound-next site w none h)))

  -- ---- used names

  -- where nothing is wrong with a used name, the path that it denotes is found
  abbrev FindsPath : Walk → Visit → Type 0
  FindsPath w v = v.faults ≡ [] → (path : List (List ℕ)) × (v.after.found ≡ w.found ++ path ∷ [])

  used-by-path : (way : Use) (name : ScopedName) (w : Walk) (r : Result Found NameFault) → IsUpTo (length name.rest) r → FindsPath w (outcome (used_by turns answers way name w r) answers)
  used-by-path way name w (Ok found) up h =
      (found.entity.path, ap (λ (v : Visit). v.after.found) (outcome-and_then (under w.own (looked_through (turns_at turns w) way found.entity)) (λ behind. Done (used_visit w way name found behind)) answers))
  used-by-path way name w (Err fault) up h = absurd (unfound-faulty (length name.rest) w way name fault up h)

  plain-finds : (way : Use) (name : ScopedName) (w : Walk) → FindsPath w (outcome (used turns way name w) answers)
  unfolding used
  plain-finds way name w =
      let query = under w.own (denoted (turns_at turns w) w.cursor name) in
      subst (FindsPath w) (sym (outcome-and_then query (used_by turns answers way name w) answers))
      (used-by-path way name w (outcome query answers) (denoted-up turns answers name w))

  spoken-by-path : (p : TextPurpose) (name : ScopedName) (w : Walk) (r : Result Found NameFault) → IsUpTo (length name.rest) r → FindsPath w (outcome (spoken_by turns answers p name w r) answers)
  spoken-by-path p name w (Ok found) up h =
      (found.entity.path, ap (λ (v : Visit). v.after.found) (outcome-and_then (under w.own (remark p (last_at w.at name) w.text found.entity)) (λ s. Done (spoken_visit w name found s)) answers))
  spoken-by-path p name w (Err (At why part)) up h = absurd (not-one h)
  spoken-by-path p name w (Err Memory) up h = absurd up

  spoken-finds : (p : TextPurpose) (name : ScopedName) (w : Walk) → FindsPath w (outcome (spoken_of turns p name w) answers)
  unfolding spoken_of
  spoken-finds p name w =
      let query = under w.own (denoted (turns_at turns w) w.cursor name) in
      subst (FindsPath w) (sym (outcome-and_then query (spoken_by turns answers p name w) answers))
      (spoken-by-path p name w (outcome query answers) (denoted-up turns answers name w))

  any-finds : (way : Use) (name : ScopedName) (w : Walk) → FindsPath w (outcome (plain_name turns way name w) answers)
  any-finds way name w = by_purpose (purpose_of way)
    where
      by_purpose : (o : Option TextPurpose) → FindsPath w (outcome (elim o as (λ _. Lookup Visit) [ None ↦ used turns way name w | Some p ↦ spoken_of turns p name w ]) answers)
      by_purpose (Some p) = spoken-finds p name w
      by_purpose None = plain-finds way name w

  -- what is found at a site is what the name there uses
  beside-none : (w after : Walk) → after.found ≡ w.found → after.found ≡ w.found ++ []
  beside-none w after h = h ∙ sym (append-nil w.found)

  at-used : (site : Item) (w : Walk) → (visited turns answers site w).faults ≡ []
      → (visited turns answers site w).after.found ≡ w.found ++ used_paths (names_at site w (visited turns answers site w).after)
  unfolding visit
  at-used (item.Declares way name) w h =
      let v = visited turns answers (item.Declares way name) w in
      beside-none w v.after (declared-found turns answers way name w (first_of w.cursor))
      ∙ ap (λ ps. w.found ++ ps) (sym (declared-unused w.at (option_map (λ (e : Entity). e.path) v.after.last)))
  at-used (item.Uses way name) w h =
      let v = visited turns answers (item.Uses way name) w in
      let one = any-finds way name w h in
      let got : slice_get v.after.found (length w.found) ≡ Some one.0 = ap (λ ps. slice_get ps (length w.found)) one.1 ∙ slice_get-last w.found one.0 in
      one.1 ∙ ap (λ o. w.found ++ used_paths (named Used (last_at w.at name) o)) (sym got)
  at-used (item.ValueEnds way e) w h = beside-none w (value_visit w way (outcome_at w way e)).after (valued-found w way (outcome_at w way e))
  at-used item.ScopeEnds w h = beside-none w (end_visit w (first_of w.cursor)).after (end-found w (first_of w.cursor))
  at-used other w h = sym (append-nil w.found)

  pub walked-used : (sites : List Item) (w : Walk) → w.fault ≡ None → visit_faults turns answers sites w ≡ []
      → (walked turns answers sites w).found ≡ w.found ++ used_paths (site_names turns answers sites w)
  walked-used [] w none h = sym (append-nil w.found) ∙ ap (λ ns. w.found ++ used_paths ns) (sym (names-end turns answers w))
  walked-used (site ∷ sites) w none h =
      let v = visited turns answers site w in
      let parts = none-append v.faults (visit_faults turns answers sites v.after) h in
      let here = names_at site w v.after in
      let rest = site_names turns answers sites v.after in
      walked-used sites v.after ((visit-placed turns answers site w).keeps ∙ none) parts.1
      ∙ ap (λ ps. ps ++ used_paths rest) (at-used site w parts.0)
      ∙ append_assoc w.found (used_paths here) (used_paths rest)
      ∙ ap (λ ps. w.found ++ ps) (sym (used-append here rest))
      ∙ ap (λ ns. w.found ++ used_paths ns) (sym (sound-names site sites w none parts.0))

-- ---- units

module _ (turns : ℕ) (answers : Key → Option Answer) where
  -- a unit without fault has the names at the sites of its tree
  pub sound-sites : (tokens : List Token) (scopes : List Scope) (verdict : Verdict) (s : IsSound turns answers scopes tokens verdict)
      → token_names turns answers tokens scopes ≡ site_names turns answers (items (unit_parts s.tree)) (first_walk scopes)
  sound-sites tokens scopes verdict s =
      names-treed turns answers tokens scopes s.tree (tree-read tokens scopes s.tree (λ i. least_fault (s.rules i ++ s.opening i)) s.spelled)
      ∙ ap (λ b. site_names turns answers (items (unit_parts s.tree)) (record (first_walk scopes) { fault = least_fault (faults_by 0 ((b, MisplacedUnit) ∷ [])) })) s.placed

  -- what is found by the walk is what the unit uses
  pub unit-used : (tokens : List Token) (tree : Tree) → (outcome (verdict turns (unit.Tokens tokens)) answers).fault ≡ None → lexemes tokens ≡ spell tree
      → used_paths (unit_names turns answers (unit.Tokens tokens)) ≡ (walked turns answers (items (unit_parts tree)) (first_walk (scopes_in (answers Cursor)))).found
  unit-used tokens tree none spelled =
      let scopes = scopes_in (answers Cursor) in
      let s = sound-is turns answers tokens none in
      let same : s.tree ≡ tree = ap (λ (r : Result Tree ℕ). elim r [ Ok t ↦ t | Err n ↦ tree ]) (sym (spelled-tree tokens s.tree s.spelled) ∙ spelled-tree tokens tree spelled) in
      ap used_paths (sound-sites tokens scopes (outcome (verdict turns (unit.Tokens tokens)) answers) s)
      ∙ sym (walked-used turns answers (items (unit_parts s.tree)) (first_walk scopes) refl (whole-none turns answers (items (unit_parts s.tree)) (first_walk scopes) s.named))
      ∙ ap (λ t. (walked turns answers (items (unit_parts t)) (first_walk scopes)).found) same

  -- each name stands at a token of the unit
  pub unit-before : (tokens : List Token) → All (λ n. n.index < length tokens) (unit_names turns answers (unit.Tokens tokens))
  unit-before tokens = by_tree (unit_tree tokens (scopes_in (answers Cursor))) refl
    where
      by_tree : (r : Result Tree Fault) → unit_tree tokens (scopes_in (answers Cursor)) ≡ r
          → All (Before (length tokens)) (elim r as (λ _. List NamedSite) [ Err fault ↦ [] | Ok tree ↦ tree_names turns answers (scopes_in (answers Cursor)) tree ])
      by_tree (Err fault) is = All-nil (Before (length tokens))
      by_tree (Ok tree) is =
          let sites = items (unit_parts tree) in
          let spelled = unit_tree-spelled tokens (scopes_in (answers Cursor)) tree is in
          All-weaker (Before (0 + items_length sites)) (Before (length tokens)) (λ n lt. omega (arith, lt, sites-length tokens tree spelled))
          (tree_names turns answers (scopes_in (answers Cursor)) tree) (names-before turns answers sites (placed_walk (scopes_in (answers Cursor)) tree))
