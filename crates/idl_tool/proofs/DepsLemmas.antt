-- Rules of roots, one after another.
use Rattle.std.proofs.Common.{◌≡◌, ◌∙◌, ◌+◌, ◌<◌, ◌≤◌, ◌++◌, ◌∷◌, [], ℕ, ◌||◌, All, Bool, IsTrue, List, ap, ap₂, append_assoc, filter, flat_map, get_or, length, map, refl, sym, take, if◌then◌else◌, true, false}
use Rattle.std.proofs.lemmas.List.{append-nil, take_all, take_more}
use Rattle.std.proofs.lemmas.List.Concat.{flat_map-append}
use Rattle.std.proofs.lemmas.List.Elements.{All-cons, All-filter, All-head, All-nil, All-tail}
use Rattle.clap.proofs.WalkLemmas.{list_any-map}
use Rattle.idl_tool.specs.make_rules.Make.{IfThere, IsMakeRule, Need, Rule, There, is_make_name, name_in, rule_text, rules_text}
use Rattle.idl_source.specs.texts.Texts.{Texts}
use Rattle.idl_driver.specs.idl_sources.Compile.{compiled_root}
use Rattle.idl_inputs.specs.Project.{Inputs}
use Rattle.idl_driver.specs.idl_sources.declared.compile.CompiledRoot.{CompiledRoot}
use Rattle.idl_driver.specs.Compiled.{is_faulty}
use Rattle.idl_driver.specs.Rows.{are_faulty}
use Rattle.idl_tool.specs.Deps.{empty_rule, is_other, is_there, need_of, needs_in, needs_of, rules_for, rules_in, target_of, wanted_in}
use Rattle.idl_tool.specs.declared.request.Deps.{Deps}

pub rules_text-append : (xs ys : List Rule) → rules_text (xs ++ ys) ≡ rules_text xs ++ rules_text ys
rules_text-append xs ys = flat_map-append (λ rule. rule_text rule ++ 10 ∷ []) xs ys

-- the rules of one root more
pub flat_map-next : {X Y : Type 0} (f : X → List Y) (xs : List X) (i : ℕ) (x : X) → i < length xs → x ≡ get_or xs i x
    → flat_map f (take (i + 1) xs) ≡ flat_map f (take i xs) ++ f x
flat_map-next f xs i x within is =
    ap (flat_map f) (take_more xs i x within) ∙ flat_map-append f (take i xs) (get_or xs i x ∷ [])
    ∙ ap (λ y. flat_map f (take i xs) ++ flat_map f (y ∷ [])) (sym is) ∙ ap (λ l. flat_map f (take i xs) ++ l) (append-nil (f x))

-- a text behind another one: of none, of one more, and of all
pub pushed-none : {X Y : Type 0} (f : X → List Y) (xs : List X) (before : List Y) → before ≡ before ++ flat_map f (take 0 xs)
pushed-none f xs before = sym (append-nil before)

pub pushed-next : {X Y : Type 0} (f : X → List Y) (xs : List X) (i : ℕ) (d : X) (before text whole : List Y) → i < length xs
    → text ≡ before ++ flat_map f (take i xs) → whole ≡ text ++ f (get_or xs i d) → whole ≡ before ++ flat_map f (take (i + 1) xs)
pushed-next f xs i d before text whole within so_far put =
    let one = get_or xs i d in
    let next = ap (flat_map f) (take_more xs i d within) ∙ flat_map-append f (take i xs) (one ∷ []) ∙ ap (λ l. flat_map f (take i xs) ++ l) (append-nil (f one)) in
    put ∙ ap (λ t. t ++ f one) so_far ∙ append_assoc before (flat_map f (take i xs)) (f one) ∙ ap (λ t. before ++ t) (sym next)

pub pushed-all : {X Y : Type 0} (f : X → List Y) (xs : List X) (i : ℕ) (before text : List Y) → length xs ≤ i → text ≡ before ++ flat_map f (take i xs) → text ≡ before ++ flat_map f xs
pushed-all f xs i before text past is = is ∙ ap (λ ys. before ++ flat_map f ys) (take_all i xs past)

pub ending-of : (inputs : Inputs) (roots : List (List ℕ)) (compiled : List CompiledRoot) → compiled ≡ map (compiled_root inputs) roots
    → are_faulty compiled ≡ is_faulty inputs roots
ending-of inputs roots compiled rows =
    ap are_faulty rows ∙ sym (list_any-map (λ (r : CompiledRoot). r.rows.is_faulty) (compiled_root inputs) roots)

-- make can read the rules of a root where it can read the target and what the root asks for
abbrev Readable : List ℕ → Type 0
Readable name = IsTrue (is_make_name name)

needs-readable : (g : Bool) (files : Texts) (names : List (List ℕ)) → All Readable names → All (λ need. IsTrue (is_make_name (name_in need))) (map (need_of g files) names)
needs-readable g files [] are = All-nil (λ need. IsTrue (is_make_name (name_in need)))
needs-readable g files (name ∷ names) are =
    All-cons (λ need. IsTrue (is_make_name (name_in need))) (need_of g files name) (map (need_of g files) names) (by (g || is_there files name))
    (needs-readable g files names (All-tail Readable name names are))
  where
    by : (there : Bool) → IsTrue (is_make_name (name_in (if there then There name else IfThere name)))
    by true = All-head Readable name names are
    by false = All-head Readable name names are

empties-readable : (names : List (List ℕ)) → All Readable names → All IsMakeRule (map empty_rule names)
empties-readable [] are = All-nil IsMakeRule
empties-readable (name ∷ names) are =
    All-cons IsMakeRule (empty_rule name) (map empty_rule names) (record { target = All-head Readable name names are; needs = All-nil (λ need. IsTrue (is_make_name (name_in need))) })
    (empties-readable names (All-tail Readable name names are))

pub rules-readable : (deps : Deps) (files : Texts) (root : List ℕ) (names : List (List ℕ)) → Readable (target_of deps root) → All Readable names → All IsMakeRule (rules_for deps files root names)
rules-readable deps files root names target are =
    All-cons IsMakeRule (record { target = target_of deps root; needs = map (need_of deps.has_generated files) names }) (map empty_rule (filter (is_other files root) names))
    (record { target = target; needs = needs-readable deps.has_generated files names are })
    (empties-readable (filter (is_other files root) names) (All-filter (is_other files root) Readable names are))

-- ---- what rules stand on

needs_of-empties : (names : List (List ℕ)) → needs_of (map empty_rule names) ≡ []
needs_of-empties [] = refl
needs_of-empties (name ∷ names) = needs_of-empties names

needs_of-rules : (deps : Deps) (inputs : Inputs) (root : List ℕ) → needs_of (rules_in deps inputs root) ≡ needs_in deps inputs root
needs_of-rules deps inputs root =
    let others = filter (is_other inputs.files root) (wanted_in deps inputs root) in
    ap (λ (needs : List Need). needs_in deps inputs root ++ needs) (needs_of-empties others) ∙ append-nil (needs_in deps inputs root)

-- it is what the roots ask for
pub needs_of-roots : (deps : Deps) (inputs : Inputs) (roots : List (List ℕ)) → needs_of (flat_map (rules_in deps inputs) roots) ≡ flat_map (needs_in deps inputs) roots
needs_of-roots deps inputs [] = refl
needs_of-roots deps inputs (root ∷ roots) =
    flat_map-append (λ (rule : Rule). rule.needs) (rules_in deps inputs root) (flat_map (rules_in deps inputs) roots)
    ∙ ap₂ (λ (xs ys : List Need). xs ++ ys) (needs_of-rules deps inputs root) (needs_of-roots deps inputs roots)
