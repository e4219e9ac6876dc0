-- What stands at the first places of entries, for what the steps of walks ask.
use denote.Ref.{Bor}
use Rattle.std.proofs.Common.{◌≡◌, ℕ, Bool, true, false, ◌&&◌, ◌||◌, List, [], ◌∷◌, ◌++◌, Option, None, Some, refl, sym, ap, subst, ◌∙◌}
use Rattle.std.specs.Cmp.Lexicographic.{bytes_decides}
use Rattle.std.specs.Option.{option_copied, option_eq, option_map, option_or}
use Rattle.std.specs.Prelude.{IfSome, slice_get}
use Rattle.std.specs.Str.{bytes_eq}
use Rattle.idl_base.proofs.Bools.{or-false}
use Rattle.idl_entity.specs.idl_lex.kinds.Keywords.{folded}
use Rattle.idl_entity.specs.Path.{name_of, path_eq, same_path, scope_of}
use Rattle.idl_env.specs.Facts.{entity_key}
use Rattle.idl_env.specs.SameKey.{same_key}
use Rattle.idl_env.specs.keys.Digested.{key_equiv}
use Rattle.idl_env.specs.keys.Key.{key_eq}
use Rattle.idl_env.specs.answering.Walked.{entries_walked}
use Rattle.idl_env.specs.declared.answering.answer.Answer.{Answer}
use Rattle.idl_env.specs.declared.answering.steps.Walked.{Walked}
use Rattle.idl_env.specs.declared.keys.key.Key.{Key}
use Rattle.idl_env.specs.declared.keys.key.Key.TheVariants.{Declared}
use Rattle.idl_memo.specs.Query.{is_logged}
use Rattle.idl_memo.specs.Runs.{BeginsWith, first_other, other_at}

-- the key of a name and a scope that are compared with another name and path
pub declared_at : (key : Key) (own name : List ℕ) (scope path : List (List ℕ)) → Declared own scope ≡ key → bytes_eq own name ≡ true → path_eq path scope ≡ true → key ≡ Declared name path
declared_at key own name scope path is alike same =
    sym is ∙ (λ i. Declared ((bytes_decides own name).0 alike i) (sym (same_path path scope same) i))

-- the key of an entity whose name and scope are those of a path
pub entity_found : (key : Key) (named path : List (List ℕ)) → entity_key named ≡ key → (bytes_eq (folded (name_of path)) (folded (name_of named)) && path_eq (scope_of path) (scope_of named)) ≡ true → key ≡ entity_key path
entity_found key named path is same = sym is ∙ sym (same_key (entity_key path) (entity_key named) same)

-- whether one key of one is logged
pub has_one : {V : Type 0} (one : Key) (v : V) (key : Key) → key_eq one key ≡ is_logged key_eq ((one, v) ∷ []) key
has_one one v key = key_equiv.symm one key ∙ sym (or-false (key_eq key one))

-- and of two
pub has_two : {V : Type 0} (one two : Key) (v w : V) (key : Key) → (key_eq one key || key_eq two key) ≡ is_logged key_eq ((one, v) ∷ (two, w) ∷ []) key
has_two one two v w key =
    (λ i. key_equiv.symm one key i || key_equiv.symm two key i)
    ∙ ap (λ b. key_eq key one || b) (sym (or-false (key_eq key two)))

-- entries begin with the first
pub one_first : {E : Type 0} (entries : List E) (a : E) → slice_get entries 0 ≡ Some a → BeginsWith (a ∷ []) entries
one_first [] a h = absurd (cc)
one_first (x ∷ rest) a h = (rest, cc)

-- and with the first two
pub two_first : {E : Type 0} (entries : List E) (a b : E) → slice_get entries 0 ≡ Some a → slice_get entries 1 ≡ Some b → BeginsWith (a ∷ b ∷ []) entries
two_first [] a b h k = absurd (cc)
two_first (x ∷ []) a b h k = absurd (cc)
two_first (x ∷ y ∷ rest) a b h k = (rest, cc)

-- entries begin with the step of the answer that was found
pub found_first : (head : Walked) (entries : List (Key × Option Answer)) (found : Option (Bor Answer)) (a : Answer) → IfSome found (λ answer. BeginsWith (entries_walked head answer.now) entries) → option_copied found ≡ Some a
    → BeginsWith (entries_walked head a) entries
found_first head entries None a told same = absurd (cc)
found_first head entries (Some answer) a told same =
    let this : answer.now ≡ a = cc in
    subst (λ b. BeginsWith (entries_walked head b) entries) this told

module _ {K V : Type 0} (eq : V → V → Bool) (bank : K → Option V) where
  -- of one entry, its answer is told if it is another one
  pub other_alone : (e : K × Option V) → other_at eq e.1 (bank e.0) ≡ first_other eq bank (e ∷ [])
  other_alone e = by (option_eq eq e.1 (bank e.0)) refl
    where
      by : (b : Bool) → option_eq eq e.1 (bank e.0) ≡ b → other_at eq e.1 (bank e.0) ≡ first_other eq bank (e ∷ [])
      by true h = rw h refl
      by false h = rw h refl

  -- and of two, the second where the first is none
  pub other_two : (d e : K × Option V) → option_or (other_at eq d.1 (bank d.0)) (other_at eq e.1 (bank e.0)) ≡ first_other eq bank (d ∷ e ∷ [])
  other_two d e = by (option_eq eq d.1 (bank d.0)) refl
    where
      by : (b : Bool) → option_eq eq d.1 (bank d.0) ≡ b → option_or (other_at eq d.1 (bank d.0)) (other_at eq e.1 (bank e.0)) ≡ first_other eq bank (d ∷ e ∷ [])
      by true h = rw h (other_alone e)
      by false h = rw h refl

-- what is mapped of one or else of another
pub mapped_or : {A B : Type 0} (f : A → B) (o p : Option A) → option_map f (option_or o p) ≡ option_or (option_map f o) (option_map f p)
mapped_or f None p = refl
mapped_or f (Some a) p = refl
