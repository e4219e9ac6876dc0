-- The three steps of a verdict, run.
use Rattle.std.proofs.Common.{◌≡◌, ℕ, List, [], ◌∷◌, ◌++◌, Option, None, Some, Result, Ok, Err, refl, sym, ap, ◌∙◌, append-nil, arith, ◌≤◌}
use Rattle.std.proofs.lemmas.Option.{same_Some}
use Rattle.std.proofs.lemmas.List.{length-map}
use Rattle.std.specs.Prelude.{fold, length}
use Rattle.idl_check.proofs.Faults.LeastFault.{least-none}
use Rattle.idl_memo.specs.Query.{Ask, Done, Tell, and_then}
use Rattle.idl_memo.proofs.QueryLaws.{run-and_then_at}
use Rattle.idl_check.proofs.Visits.VerdictLaws.{spelled-tree, stopped-tree, tree-spelled}
use Rattle.idl_check.proofs.Visits.VisitLemmas.{runs_over}
use Rattle.idl_check.specs.walk.Placing.{opening_faults, step_of}
use Rattle.idl_check.specs.walk.Verdict.{asking, first_faults, judged, refused, sound, tree_by, tree_of, unit_tree}
use Rattle.idl_check.specs.walk.Walk.{Walk, walk}
use Rattle.idl_fault.specs.declared.code.Code.TheVariants.{NoTree}
use Rattle.idl_lex.specs.tokens.Tokens.{Token}
use Rattle.idl_env.specs.Facts.{path_around, UnitFacts}
use Rattle.idl_env.specs.keys.Key.{key_eq}
use Rattle.idl_scope.specs.Lookup.{Lookup, under}
use Rattle.idl_env.specs.declared.answering.answer.Answer.{Answer}
use Rattle.idl_env.specs.declared.answering.answer.Scope.{Scope}
use Rattle.idl_env.specs.declared.keys.key.Key.{Key}
use Rattle.idl_parts.specs.Item.{items, items_length}
use Rattle.idl_parts.specs.UnitParts.{unit_parts}
use Rattle.idl_parts.proofs.UnitSpelling.{counted, unit_spells}
use Rattle.idl_parse.specs.Parse.{StopsAt}
use Rattle.idl_tree.specs.Lexeme.{lexeme_of, lexemes}
use Rattle.idl_tree.specs.Unit.{spell}
use Rattle.idl_tree.specs.declared.unit.Tree.{Tree}
use Rattle.idl_unit.specs.Faults.{least_fault, lesser_fault}
use Rattle.idl_unit.specs.TokenRules.{fault_at, token_faults}
use Rattle.idl_env.specs.Turns.{HasTurnsFor, turns_for}
use Rattle.idl_env.specs.declared.additions.addition.Step.TheVariants.{Stays}
use Rattle.idl_unit.specs.declared.fault.Fault.{Fault}

-- turns for the facts are turns for them and nothing more
pub turns-none : (facts : List UnitFacts) (own : UnitFacts) (turns : ℕ) → own ≡ record { additions = []; step = Stays } → turns_for facts ≤ turns → HasTurnsFor facts own.additions turns
turns-none facts own turns none h = rw none (omega (arith, h))

-- a lookup under no additions
pub under-none : {A : Type 0} (q : Lookup A) → under [] q ≡ q
under-none (Done a) = refl
under-none (Ask k next) = λ i. Ask k (λ v. under-none (next v) i)
under-none (Tell x q) = ap (Tell x) (under-none q)

-- the least of faults, with one more
fold-more : (f g : Fault) (faults : List Fault) → fold lesser_fault f (faults ++ g ∷ []) ≡ lesser_fault (fold lesser_fault f faults) g
fold-more f g [] = refl
fold-more f g (h ∷ faults) = fold-more (lesser_fault f h) g faults

pub least_fault-more : (faults : List Fault) (f g : Fault) → least_fault faults ≡ Some f → least_fault (faults ++ g ∷ []) ≡ Some (lesser_fault f g)
least_fault-more [] f g h = cc
least_fault-more (x ∷ faults) f g h = ap Some (fold-more x g faults ∙ ap (λ y. lesser_fault y g) (same_Some (fold lesser_fault x faults) f h))

-- the faults of the first step, where the rules of tokens find none
pub first_faults-opening : (tokens : List Token) (scopes : List Scope) (faults : List Fault) → least_fault (token_faults tokens) ≡ None → faults ≡ opening_faults tokens scopes
    → first_faults tokens scopes ≡ faults
first_faults-opening tokens scopes faults h is = λ i. least-none (token_faults tokens) h i ++ sym is i

-- the sites of a unit are as many tokens as it has
pub sites-length : (tokens : List Token) (tree : Tree) → lexemes tokens ≡ spell tree → items_length (items (unit_parts tree)) ≡ length tokens
sites-length tokens tree h =
    let parts = counted (unit_parts tree) in
    let spelled = ap length (unit_spells tree) in
    let all = ap length h in
    omega (arith, parts, spelled, all, length-map tokens lexeme_of)

-- ---- the first two steps

module _ (tokens : List Token) (scopes : List Scope) where
  pub tree-ruled : (fault : Fault) → least_fault (first_faults tokens scopes) ≡ Some fault → unit_tree tokens scopes ≡ Err fault
  tree-ruled fault h = ap (λ o. tree_by o (tree_of tokens)) h

  pub tree-found : (fault : Fault) → [] ≡ opening_faults tokens scopes → least_fault (token_faults tokens) ≡ Some fault → unit_tree tokens scopes ≡ Err fault
  tree-found fault opening h = tree-ruled fault (ap (λ more. least_fault (token_faults tokens ++ more)) (sym opening) ∙ ap least_fault (append-nil (token_faults tokens)) ∙ h)

  pub tree-stopped : (place : ℕ) → least_fault (first_faults tokens scopes) ≡ None → StopsAt tokens place → unit_tree tokens scopes ≡ Err (fault_at place NoTree)
  tree-stopped place h stops = ap (λ o. tree_by o (tree_of tokens)) h ∙ ap (tree_by None) (stopped-tree tokens place stops)

  pub tree-read : (tree : Tree) → least_fault (first_faults tokens scopes) ≡ None → lexemes tokens ≡ spell tree → unit_tree tokens scopes ≡ Ok tree
  tree-read tree h spelled = ap (λ o. tree_by o (tree_of tokens)) h ∙ ap (tree_by None) (spelled-tree tokens tree spelled)

  -- the tree is the one that they spell
  spelled-by : (tree : Tree) (o : Option Fault) (r : Result Tree ℕ) → tree_of tokens ≡ r → tree_by o r ≡ Ok tree → lexemes tokens ≡ spell tree
  spelled-by tree (Some fault) r is h = absurd cc
  spelled-by tree None (Err place) is h = absurd cc
  spelled-by tree None (Ok t) is h = let same : t ≡ tree = cc in tree-spelled tokens tree (is ∙ ap Ok same)

  pub unit_tree-spelled : (tree : Tree) → unit_tree tokens scopes ≡ Ok tree → lexemes tokens ≡ spell tree
  unit_tree-spelled tree h = spelled-by tree (least_fault (first_faults tokens scopes)) (tree_of tokens) refl h

module _ (bank : Key → Option Answer) (turns : ℕ) (tokens : List Token) (scopes : List Scope) (tree : Tree) where
  -- a walk that comes to this, from here on
  pub judged_from : (log : List (Key × Option Answer)) (from w : Walk) (after : List (Key × Option Answer))
      → (w, after) ≡ runs_over bank (walk turns (items (unit_parts tree)) from) log
      → runs_over bank (and_then (walk turns (items (unit_parts tree)) from) (λ w. judged tokens scopes tree w)) log ≡ runs_over bank (judged tokens scopes tree w) after
  judged_from log from w after gives =
      run-and_then_at key_eq (walk turns (items (unit_parts tree)) from) (λ w. judged tokens scopes tree w) bank log w after gives

  pub judged_faulty : (w : Walk) (fault : Fault) → w.fault ≡ Some fault → judged tokens scopes tree w ≡ refused tokens fault
  judged_faulty w fault h =
      ap (λ o. elim o [ Some fault ↦ refused tokens fault | None ↦ asking (step_of tree (path_around scopes)) (sound tokens scopes tree w) ]) h

  pub judged_sound : (w : Walk) → w.fault ≡ None → judged tokens scopes tree w ≡ asking (step_of tree (path_around scopes)) (sound tokens scopes tree w)
  judged_sound w h =
      ap (λ o. elim o [ Some fault ↦ refused tokens fault | None ↦ asking (step_of tree (path_around scopes)) (sound tokens scopes tree w) ]) h
