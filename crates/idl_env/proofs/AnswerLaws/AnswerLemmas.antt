-- Answers at their keys.
use Rattle.std.proofs.Common.{◌≡◌, Bool, true, false, cond, List, [], ◌∷◌, ◌++◌, Option, Some, None, map, refl, sym, ap, ◌∙◌}
use Rattle.std.specs.Map.{lookup}
use Rattle.idl_map.specs.Table.{insert_entry}
use Rattle.idl_env.specs.Facts.{addition_at, answer_of, key_of, over, with_addition}
use Rattle.idl_env.specs.Held.{HaveOwnKeys}
use Rattle.idl_env.specs.keys.Key.{key_eq}
use Rattle.idl_env.specs.SameKey.{same_key}
use Rattle.idl_env.specs.declared.additions.addition.Addition.{Addition}
use Rattle.idl_env.specs.declared.additions.addition.Addition.TheVariants.{Declares, Uses, UsesFurther, Appears, Identifies, TypePrefixes}
use Rattle.idl_env.specs.declared.answering.answer.Answer.{Answer}
use Rattle.idl_env.specs.declared.keys.key.Key.{Key}
use Rattle.idl_env.specs.declared.keys.key.Key.TheVariants.{Prefix as PrefixKey}

-- the addition at a key, as it is kept
pub lookup-addition_at : (entries : List (Key × Addition)) (k : Key) → HaveOwnKeys entries → lookup (key_eq k) entries ≡ addition_at (map (λ e. e.1) entries) k
lookup-addition_at [] k h = refl
lookup-addition_at (e ∷ entries) k h =
    ap (λ x. cond (key_eq k x) (Some e.1) (lookup (key_eq k) entries)) h.0
    ∙ ap (λ o. cond (key_eq k (key_of e.1)) (Some e.1) o) (lookup-addition_at entries k h.1)

one_more : (e : Key × Addition) (entries : List (Key × Addition)) (a : Addition) → map (λ e. e.1) (insert_entry key_eq entries (key_of a) a) ≡ with_addition (map (λ e. e.1) entries) a
    → (b : Bool) → map (λ e. e.1) (cond b ((e.0, a) ∷ entries) (e ∷ insert_entry key_eq entries (key_of a) a)) ≡ cond b (a ∷ map (λ e. e.1) entries) (e.1 ∷ with_addition (map (λ e. e.1) entries) a)
one_more e entries a rest true = refl
one_more e entries a rest false = ap (λ more. e.1 ∷ more) rest

-- additions as they are kept, with one more
pub additions-insert_entry : (entries : List (Key × Addition)) (a : Addition) → HaveOwnKeys entries → map (λ e. e.1) (insert_entry key_eq entries (key_of a) a) ≡ with_addition (map (λ e. e.1) entries) a
additions-insert_entry [] a h = refl
additions-insert_entry (e ∷ entries) a h =
    one_more e entries a (additions-insert_entry entries a h.1) (key_eq (key_of a) e.0)
    ∙ ap (λ x. cond (key_eq (key_of a) x) (a ∷ map (λ e. e.1) entries) (e.1 ∷ with_addition (map (λ e. e.1) entries) a)) h.0

own_more : (e : Key × Addition) (entries : List (Key × Addition)) (a : Addition) → HaveOwnKeys (e ∷ entries) → HaveOwnKeys (insert_entry key_eq entries (key_of a) a)
    → (b : Bool) → key_eq (key_of a) e.0 ≡ b → HaveOwnKeys (cond b ((e.0, a) ∷ entries) (e ∷ insert_entry key_eq entries (key_of a) a))
own_more e entries a h rest true t = (sym (same_key (key_of a) e.0 t), h.1)
own_more e entries a h rest false t = (h.0, rest)

-- each still has its own key
pub HaveOwnKeys-insert_entry : (entries : List (Key × Addition)) (a : Addition) → HaveOwnKeys entries → HaveOwnKeys (insert_entry key_eq entries (key_of a) a)
HaveOwnKeys-insert_entry [] a h = (refl, tt)
HaveOwnKeys-insert_entry (e ∷ entries) a h = own_more e entries a h (HaveOwnKeys-insert_entry entries a h.1) (key_eq (key_of a) e.0) refl

-- the answer over additions of which this is the first
pub over-cons : (a : Addition) (additions : List Addition) (k : Key) (before : Option Answer) → over (a ∷ additions) k before ≡ cond (key_eq k (key_of a)) (Some (answer_of a)) (over additions k before)
over-cons a additions k before = by (key_eq k (key_of a))
  where
    by : (b : Bool) → elim (cond b (Some a) (addition_at additions k)) [ None ↦ before | Some a ↦ Some (answer_of a) ] ≡ cond b (Some (answer_of a)) (over additions k before)
    by true = refl
    by false = refl

-- additions change no prefix
pub over_prefix : (additions : List Addition) (before : Option Answer) → over additions PrefixKey before ≡ before
over_prefix [] before = refl
over_prefix (Declares e ∷ additions) before = over_prefix additions before
over_prefix (Uses n path body ∷ additions) before = over_prefix additions before
over_prefix (UsesFurther n path further ∷ additions) before = over_prefix additions before
over_prefix (Appears path prefix ∷ additions) before = over_prefix additions before
over_prefix (Identifies path identity ∷ additions) before = over_prefix additions before
over_prefix (TypePrefixes path text ∷ additions) before = over_prefix additions before

-- and of which this is the last
pub over-last : (additions : List Addition) (a : Addition) (k : Key) (before : Option Answer)
    → over (additions ++ a ∷ []) k before ≡ over additions k (cond (key_eq k (key_of a)) (Some (answer_of a)) before)
over-last [] a k before = over-cons a [] k before
over-last (b ∷ additions) a k before =
    over-cons b (additions ++ a ∷ []) k before
    ∙ ap (λ o. cond (key_eq k (key_of b)) (Some (answer_of b)) o) (over-last additions a k before)
    ∙ sym (over-cons b additions k (cond (key_eq k (key_of a)) (Some (answer_of a)) before))
