-- What answers that are kept come to.
use Rattle.std.proofs.Common.{◌≡◌, ℕ, ◌<◌, ◌+◌, ◌-◌, Bool, true, false, cond, List, [], ◌∷◌, ◌++◌, Option, Some, None, MatchOption, drop, take, reverse, refl, sym, ap, ◌∙◌, arith}
use Rattle.std.specs.Map.{lookup}
use Rattle.std.specs.Prelude.{◌||◌}
use Rattle.std.specs.Option.{option_to_list}
use Rattle.std.proofs.lemmas.Option.{same_Some}
use Rattle.std.proofs.lemmas.List.{append-nil, reverse-append}
use Rattle.idl_entity.specs.Entity.{is_operation}
use Rattle.idl_env.specs.Facts.{World, addition_at, after_closing, after_opening, answer_of, closed, closing, count_in, entity_in, entity_key, first_answer, given_back, global_scope, more_inside, operations_among, over, prefix_in, scopes_in, with_answer, with_prefix}
use Rattle.idl_env.specs.Held.{closable, held}
use Rattle.idl_env.specs.Stamps.{Kept, Stamps, stamped, stamped_in}
use Rattle.idl_env.specs.Written.{closes_at, is_added}
use Rattle.idl_entity.specs.Identity.{no_prefix}
use Rattle.idl_env.specs.keys.Key.{key_eq}
use Rattle.idl_entity.specs.Kind.{kind_eq}
use Rattle.idl_entity.specs.declared.kind.Kind.TheVariants.{Interface}
use Rattle.idl_env.specs.declared.additions.addition.Addition.{Addition}
use Rattle.idl_env.specs.declared.additions.addition.Addition.TheVariants.{Declares, Uses, UsesFurther, Appears, Identifies, TypePrefixes}
use Rattle.idl_env.specs.declared.answering.answer.Answer.{Answer}
use Rattle.idl_env.specs.declared.answering.answer.Answer.TheVariants.{Open, Count, InForce}
use Rattle.idl_env.specs.declared.answering.answer.Scope.{Scope}
use Rattle.idl_entity.specs.declared.entity.Entity.{Entity}
use Rattle.idl_env.specs.declared.keys.key.Key.{Key}
use Rattle.idl_env.specs.declared.keys.key.Key.TheVariants.{Cursor, Opened, Prefix as PrefixKey}
use Rattle.idl_env.specs.declared.answering.state.State.{State}

-- what is answered by what is kept
abbrev pub kept : Kept → Key → Option Answer
kept answers = (stamped_in answers).at

-- scopes that are open, the innermost first, with one more, and which is the innermost of them
pub reverse-push : {A : Type 0} (outer : List A) (own : A) → reverse (outer ++ own ∷ []) ≡ own ∷ reverse outer
reverse-push outer own = reverse-append outer (own ∷ [])

-- no more
pub more_inside-nothing : (inside : List (List (List (List ℕ)))) → more_inside inside [] ≡ inside
more_inside-nothing [] = refl
more_inside-nothing (own ∷ outer) = ap (λ l. l ∷ outer) (append-nil own)

-- the innermost ones taken off and put there again, with more
pub reverse-more : (all outer : List (List (List (List ℕ)))) (own more : List (List (List ℕ))) → all ≡ outer ++ own ∷ [] → reverse (outer ++ (own ++ more) ∷ []) ≡ more_inside (reverse all) more
reverse-more all outer own more is =
    reverse-push outer (own ++ more) ∙ ap (λ l. more_inside l more) (sym (ap reverse is ∙ reverse-push outer own))

-- and for good
pub reverse-pop : (all outer : List (List (List (List ℕ)))) (own : Option (List (List (List ℕ)))) (count left : ℕ) → all ≡ outer ++ option_to_list own → outer ≡ take (count - 1) all
    → MatchOption own ((count ≡ 0) × (left ≡ 0)) (λ _. left + 1 ≡ count) → reverse outer ≡ drop 1 (reverse all)
reverse-pop all outer (Some own) count left is rest counted = sym (ap (λ l. drop 1 (reverse l)) is ∙ ap (drop 1) (reverse-push outer own))
reverse-pop all outer None count left is rest counted =
    let none : outer ≡ [] = rest ∙ ap (λ n. take (n - 1) all) counted.0 in
    ap reverse none ∙ sym (ap (λ l. drop 1 (reverse l)) (is ∙ append-nil outer ∙ none))

-- a body more
pub held-opening : (state after : State) (s : Scope) (opened : Answer)
    → opened ≡ Open (s ∷ scopes_in (kept state.answers Cursor)) → kept after.answers ≡ with_answer Cursor opened (with_answer (Opened s.path) (Count s.body) (kept state.answers))
    → after.inside.items ≡ state.inside.items ++ [] ∷ [] → after.opened ≡ state.opened ++ prefix_in (kept state.answers PrefixKey) ∷ [] → after.entered ≡ state.entered
    → held after ≡ after_opening (held state) s
held-opening state after s opened is_open put is_within is_before is_entered =
    let answers = put ∙ ap (λ a. with_answer Cursor a (with_answer (Opened s.path) (Count s.body) (kept state.answers))) is_open in
    let inside = ap reverse is_within ∙ reverse-push state.inside.items [] in
    let before = ap reverse is_before ∙ reverse-push state.opened (prefix_in (kept state.answers PrefixKey)) in
    λ i. record { answers = answers i; inside = inside i; before = record { opened = before i; entered = reverse (is_entered i) } }

-- operations and attributes among additions of which this is the first
pub operations_among-cons : (a : Addition) (additions : List Addition) → operations_among (a ∷ additions) ≡ operations_among (a ∷ []) ++ operations_among additions
operations_among-cons (Declares e) additions = by (is_operation e)
  where
    by : (b : Bool) → cond b (e.path ∷ operations_among additions) (operations_among additions) ≡ cond b (e.path ∷ []) [] ++ operations_among additions
    by true = refl
    by false = refl
operations_among-cons (Uses n path body) additions = refl
operations_among-cons other additions = refl

-- additions count nothing
pub count-over : (additions : List Addition) (k : Key) (before : Option Answer) (n : ℕ) → count_in before < n → count_in (over additions k before) < n
count-over additions k before n h = by (addition_at additions k)
  where
    none : 0 < n
    none = omega arith

    by : (o : Option Addition) → count_in (elim o [ None ↦ before | Some a ↦ Some (answer_of a) ]) < n
    by None = h
    by (Some (Declares e)) = none
    by (Some (Uses m path body)) = none
    by (Some (UsesFurther m path further)) = none
    by (Some (Appears path prefix)) = none
    by (Some (Identifies path identity)) = none
    by (Some (TypePrefixes path text)) = none

-- at first
pub first-answers : (k : Key) → lookup (key_eq k) ((Cursor, Open (global_scope ∷ [])) ∷ (PrefixKey, InForce no_prefix) ∷ []) ≡ first_answer k
first-answers Cursor = refl
first-answers other = refl

-- an interface that closes
pub closing_is : (w : World) (s : Scope) (e : Entity) → kind_eq s.kind Interface ≡ true → entity_in (w.answers (entity_key s.path)) ≡ Some e → closing w s ≡ Declares (closed w e) ∷ []
closing_is w s e h is =
    ap (λ b. cond b (elim (entity_in (w.answers (entity_key s.path))) [ None ↦ [] | Some e ↦ Declares (closed w e) ∷ [] ]) []) h
    ∙ ap (λ o. elim o [ None ↦ [] | Some e ↦ Declares (closed w e) ∷ [] ]) is

pub after_closing-some : (w : World) (scopes : List Scope) (s : Scope) (outer : List Scope) → closable scopes ≡ Some (s, outer)
    → after_closing w scopes
    ≡ record {
      answers = with_prefix (given_back w.before.opened) (with_answer Cursor (Open outer) (λ k. over (closing w s) k (w.answers k)));
      inside = drop 1 w.inside;
      before = record w.before { opened = drop 1 w.before.opened };
    }
after_closing-some w [] s outer h = cc
after_closing-some w (x ∷ []) s outer h = cc
after_closing-some w (x ∷ t ∷ more) s outer h =
    let same : (x, t ∷ more) ≡ (s, outer) = same_Some (x, t ∷ more) (s, outer) h in
    λ i. record {
      answers = with_prefix (given_back w.before.opened) (with_answer Cursor (Open (same i).1) (λ k. over (closing w (same i).0) k (w.answers k)));
      inside = drop 1 w.inside;
      before = record w.before { opened = drop 1 w.before.opened };
    }

-- where it closes, at these keys
pub closes_at-some : (w : World) (scopes : List Scope) (s : Scope) (outer : List Scope) → closable scopes ≡ Some (s, outer) → (stamps : Stamps)
    → stamped (closes_at w scopes) stamps ≡ stamped (λ k. key_eq k PrefixKey || (key_eq k Cursor || is_added (closing w s) k)) stamps
closes_at-some w [] s outer h stamps = cc
closes_at-some w (x ∷ []) s outer h stamps = cc
closes_at-some w (x ∷ t ∷ more) s outer h stamps =
    let same : (x, t ∷ more) ≡ (s, outer) = same_Some (x, t ∷ more) (s, outer) h in
    λ i. stamped (λ k. key_eq k PrefixKey || (key_eq k Cursor || is_added (closing w (same i).0) k)) stamps
