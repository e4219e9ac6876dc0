-- More turns than facts name bases change nothing: a lookup gives the same and logs the same.
use Rattle.std.proofs.Common.{◌≡◌, ℕ, zero, suc, ◌+◌, ◌≤◌, Bool, true, false, cond, List, [], ◌∷◌, ◌++◌, length, Option, Some, None, Result, Ok, Err, refl, ap, ◌∙◌, sym, subst, arith, length-append, append_assoc}
use Rattle.std.specs.Prelude.{option_to_list}
use Rattle.std.proofs.lemmas.Option.{slice_get_past}
use Rattle.idl_lex.specs.kinds.Keywords.{folded}
use Rattle.idl_memo.specs.Query.{Ask, Done, and_then, noted}
use Rattle.idl_entity.specs.Kind.{inherits, is_scope}
use Rattle.idl_entity.specs.idl_tree.declared.name.ScopedName.{ScopedName}
use Rattle.idl_env.specs.Facts.{entity_key, entity_in, joined, over}
use Rattle.idl_env.specs.keys.Key.{key_eq}
use Rattle.idl_scope.specs.Lookup.{Lookup, bases_of, choose, entered, walk, reached, has, is_nothing, decided, judged, placed, by_result, part_of, first_part, further, searched, reach_of, found_as, denoted}
use Rattle.idl_scope.specs.Meaning.{own_at, bases_at}
use Rattle.idl_env.specs.declared.additions.addition.Addition.{Addition}
use Rattle.idl_env.specs.declared.answering.answer.Answer.{Answer}
use Rattle.idl_env.specs.declared.answering.answer.Scope.{Scope}
use Rattle.idl_entity.specs.declared.entity.Entity.{Entity}
use Rattle.idl_scope.specs.declared.fault.NameCode.TheVariants.{NoScope}
use Rattle.idl_scope.specs.declared.fault.NameFault.{NameFault}
use Rattle.idl_scope.specs.declared.fault.NameFault.TheVariants.{At}
use Rattle.idl_scope.specs.declared.found.Found.{Found}
use Rattle.idl_env.specs.declared.keys.key.Key.{Key}
use Rattle.idl_env.specs.declared.keys.key.Key.TheVariants.{Declared}
use Rattle.idl_entity.specs.declared.kind.Kind.{Kind}
use Rattle.idl_scope.proofs.FactsLaws.{outcome-under}
use Rattle.idl_env.proofs.Membership.{IsIn, Distinct, length-Distinct}
use Rattle.idl_scope.proofs.LookupLaws.Reaching.{added, added-Distinct, added-within, onward, waiting, waiting-Distinct, waiting-within}
use Rattle.idl_scope.proofs.LookupLaws.RunLemmas.{runs, runs-and_then, walk_end, walk_on}
use Rattle.idl_scope.proofs.LookupLaws.Walked.{among, among-IsIn, joined-added, outcome-entered, slice_get-seam}
use Rattle.idl_scope.proofs.Worlds.{AreGrounded, bases_at-within}

module _ (own : List Addition) (bank : Key → Option Answer) where
  -- two lookups that give the same and log the same, over any log
  abbrev pub AreSame : {A : Type 0} → Lookup A → Lookup A → Type 0
  AreSame q r = (log : List (Key × Option Answer)) → runs own bank q log ≡ runs own bank r log

  -- and go on to such
  pub and_then-same : {A B : Type 0} (q r : Lookup A) (f h : A → Lookup B) → AreSame q r → ((a : A) → AreSame (f a) (h a)) → AreSame (and_then q f) (and_then r h)
  and_then-same q r f h same on log =
      let a = (runs own bank q log).0 in
      let after = (runs own bank q log).1 in
      runs-and_then own bank q f log a after refl
      ∙ on a after
      ∙ sym (runs-and_then own bank r h log a after (same log))

  -- the answers as these additions change them
  abbrev pub seen_by : Key → Option Answer
  seen_by k = over own k (bank k)

  module _ (places : List (List (List ℕ))) (g : AreGrounded places seen_by) (turns : ℕ) (enough : length places ≤ turns) (extra : ℕ) where
    module _ (n : List ℕ) where
      -- the paths that wait once a base is entered
      abbrev left_behind : List (List ℕ) → List (List (List ℕ)) → List (List (List ℕ)) → List (List (List ℕ))
      left_behind b before left = waiting among among-IsIn (own_at seen_by n) (bases_at seen_by) b before left

      inside : (b c : List (List ℕ)) → IsIn b places → IsIn c (bases_at seen_by b) → IsIn c places
      inside b c i j = bases_at-within places seen_by g b c j

      -- what a base has, and where the walk goes on
      abbrev turn_of : (b : List (List ℕ)) → Option Entity × List (List (List ℕ))
      turn_of b = (own_at seen_by n b, onward (bases_at seen_by) b (own_at seen_by n b))

      enters : (b : List (List ℕ)) (log : List (Key × Option Answer)) → (turn_of b, (runs own bank (entered n b) log).1) ≡ runs own bank (entered n b) log
      enters b log = sym (ap (λ r. (r, (runs own bank (entered n b) log).1)) (outcome-under own bank (entered n b) ∙ outcome-entered seen_by n b))

      requeued : (b : List (List ℕ)) (before left : List (List (List ℕ))) → (before ++ b ∷ []) ++ left_behind b before left ≡ joined (before ++ b ∷ left) (turn_of b).1
      requeued b before left =
          let more = added among (before ++ b ∷ left) (onward (bases_at seen_by) b (own_at seen_by n b)) in
          append_assoc before (b ∷ []) (left ++ more)
          ∙ sym (append_assoc before (b ∷ left) more)
          ∙ sym (joined-added (before ++ b ∷ left) (onward (bases_at seen_by) b (own_at seen_by n b)))

      -- a walk from such a queue, under fewer turns and under more
      abbrev Same : ℕ → ℕ → List (List (List ℕ)) → List Entity → Type 0
      Same t at queue found = AreSame (walk (t + extra) n at queue found) (walk t n at queue found)

      walk-same : (t : ℕ) (before left : List (List (List ℕ))) (found : List Entity) → Distinct (before ++ left) → ((b : List (List ℕ)) → IsIn b (before ++ left) → IsIn b places) → length places ≤ length before + t
          → Same t (length before) (before ++ left) found
      walk-same t before [] found d known h log =
          let past = slice_get_past (before ++ []) (length before) (let l = length-append before [] in omega (arith, l)) in
          walk_end own bank (t + extra) n (length before) (before ++ []) found log past
          ∙ sym (walk_end own bank t n (length before) (before ++ []) found log past)
      walk-same zero before (b ∷ left) found d known h log =
          let l = length-append before (b ∷ left) in
          let k = length-Distinct (before ++ b ∷ left) places d known in
          absurd (omega (arith, l, k, h))
      walk-same (suc t) before (b ∷ left) found d known h log =
          let there = slice_get-seam before b left in
          let after = (runs own bank (entered n b) log).1 in
          let es = found ++ option_to_list (turn_of b).0 in
          let more : suc t + extra ≡ suc (t + extra) = omega arith in
          ap (λ m. runs own bank (walk m n (length before) (before ++ b ∷ left) found) log) more
          ∙ walk_on own bank (t + extra) n (length before) (before ++ b ∷ left) found log b (turn_of b) after there (enters b log)
          ∙ from es (walk-same t (before ++ b ∷ []) (left_behind b before left) es
          (waiting-Distinct among among-IsIn (own_at seen_by n) (bases_at seen_by) b before left d)
          (waiting-within among among-IsIn (own_at seen_by n) (bases_at seen_by) b before left places inside known)
          (let l = length-append before (b ∷ []) in omega (arith, l, h))) after
          ∙ sym (walk_on own bank t n (length before) (before ++ b ∷ left) found log b (turn_of b) after there (enters b log))
        where
          from : (es : List Entity) → Same t (length (before ++ b ∷ [])) ((before ++ b ∷ []) ++ left_behind b before left) es → Same t (length before + 1) (joined (before ++ b ∷ left) (turn_of b).1) es
          from es same =
              let P : ℕ → Type 0 = λ at. Same t at (joined (before ++ b ∷ left) (turn_of b).1) es in
              let Q : List (List (List ℕ)) → Type 0 = λ queue. Same t (length (before ++ b ∷ [])) queue es in
              subst P (length-append before (b ∷ [])) (subst Q (requeued b before left) same)

      pub reached-same : (path : List (List ℕ)) → AreSame (reached (turns + extra) n (bases_at seen_by path)) (reached turns n (bases_at seen_by path))
      reached-same path =
          let starts = bases_at seen_by path in
          let P : List (List (List ℕ)) → Type 0 = λ queue. Same turns 0 queue [] in
          subst P (sym (joined-added [] starts))
          (walk-same turns [] (added among [] starts) [] (added-Distinct among among-IsIn (own_at seen_by n) (bases_at seen_by) [] starts tt)
          (λ b i. bases_at-within places seen_by g path b (added-within among among-IsIn (own_at seen_by n) (bases_at seen_by) [] starts b i))
          (omega (arith, enough)))

    pub has-same : (kind : Kind) (path : List (List ℕ)) (n : List ℕ) → AreSame (has (turns + extra) kind path n) (has turns kind path n)
    has-same kind path n log = by_kind (inherits kind) (by_own (own_at seen_by n path) (noted key_eq bank (noted key_eq bank log (Declared n path)) (entity_key path)))
      where
        -- an own declaration, or what else there is
        by : ℕ → Option Entity → Lookup (List Entity)
        by t own = choose own (reached t n (bases_at seen_by path)) (λ x. Done (x ∷ []))

        by_own : (o : Option Entity) → AreSame (by (turns + extra) o) (by turns o)
        by_own None = reached-same n path
        by_own (Some e) = λ after. refl

        -- behind the question of its own declaration
        kinds : ℕ → Bool → Lookup (List Entity)
        kinds t b = cond b (Ask (entity_key path) (λ scope. choose (own_at seen_by n path) (reached t n (bases_of (entity_in scope))) (λ x. Done (x ∷ [])))) (Done (option_to_list (own_at seen_by n path)))

        by_kind : (b : Bool) → runs own bank (by (turns + extra) (own_at seen_by n path)) (noted key_eq bank (noted key_eq bank log (Declared n path)) (entity_key path)) ≡ runs own bank (by turns (own_at seen_by n path)) (noted key_eq bank (noted key_eq bank log (Declared n path)) (entity_key path))
            → runs own bank (kinds (turns + extra) b) (noted key_eq bank log (Declared n path)) ≡ runs own bank (kinds turns b) (noted key_eq bank log (Declared n path))
        by_kind true h = h
        by_kind false h = refl

    decided-same : (inside : ℕ) (scopes : List Scope) (n : List ℕ) → AreSame (decided (turns + extra) inside scopes n) (decided turns inside scopes n)
    decided-same inside [] n = λ log. refl
    decided-same inside (s ∷ scopes) n =
        and_then-same (has (turns + extra) s.kind s.path n) (has turns s.kind s.path n)
        (λ found. cond (is_nothing found) (decided (turns + extra) (inside + 1) scopes n) (Done (found, inside))) (λ found. cond (is_nothing found) (decided turns (inside + 1) scopes n) (Done (found, inside)))
        (has-same s.kind s.path n) (λ found. by_list (decided-same (inside + 1) scopes n) found)
      where
        by_list : AreSame (decided (turns + extra) (inside + 1) scopes n) (decided turns (inside + 1) scopes n) → (es : List Entity)
            → AreSame (cond (is_nothing es) (decided (turns + extra) (inside + 1) scopes n) (Done (es, inside))) (cond (is_nothing es) (decided turns (inside + 1) scopes n) (Done (es, inside)))
        by_list h [] = h
        by_list h (x ∷ es) = λ log. refl

    part_of-same : (part : ℕ) (name : List ℕ) (there other : Lookup (List Entity)) → AreSame there other → AreSame (part_of part name there) (part_of part name other)
    part_of-same part name there other h =
        and_then-same there other (λ found. Done (placed part (judged name found))) (λ found. Done (placed part (judged name found))) h (λ found log. refl)

    further-same : (part : ℕ) (e : Entity) (names : List (List ℕ)) → AreSame (further (turns + extra) part e names) (further turns part e names)
    further-same part e [] log = refl
    further-same part e (name ∷ names) log = by_kind (is_scope e.kind) (λ f. further-same (part + 1) f names)
      where
        -- how the name goes on behind a part, and a part with that
        going_on : ℕ → Result Entity NameFault → Lookup (Result Entity NameFault)
        going_on t r = by_result r (λ f. further t (part + 1) f names) (λ fault. Done (Err fault))

        there : ℕ → Lookup (Result Entity NameFault)
        there t = part_of (part + 1) name (has t e.kind e.path (folded name))

        goes : ((f : Entity) → AreSame (further (turns + extra) (part + 1) f names) (further turns (part + 1) f names)) → (r : Result Entity NameFault) → AreSame (going_on (turns + extra) r) (going_on turns r)
        goes on (Ok f) = on f
        goes on (Err fault) = λ after. refl

        by_kind : (b : Bool) → ((f : Entity) → AreSame (further (turns + extra) (part + 1) f names) (further turns (part + 1) f names))
            → runs own bank (cond b (and_then (there (turns + extra)) (going_on (turns + extra))) (Done (Err (At NoScope part)))) log ≡ runs own bank (cond b (and_then (there turns) (going_on turns)) (Done (Err (At NoScope part)))) log
        by_kind true on =
            and_then-same (there (turns + extra)) (there turns) (going_on (turns + extra)) (going_on turns)
            (part_of-same (part + 1) name (has (turns + extra) e.kind e.path (folded name)) (has turns e.kind e.path (folded name)) (has-same e.kind e.path (folded name)))
            (goes on) log
        by_kind false on = refl

    first-same : (cursor : List Scope) (name : ScopedName) → AreSame (first_part (turns + extra) cursor name) (first_part turns cursor name)
    first-same cursor name =
        and_then-same (decided (turns + extra) 0 (searched name.is_global cursor) (folded name.first)) (decided turns 0 (searched name.is_global cursor) (folded name.first))
        (λ d. Done (placed 0 (judged name.first d.0), d.1)) (λ d. Done (placed 0 (judged name.first d.0), d.1))
        (decided-same 0 (searched name.is_global cursor) (folded name.first)) (λ d log. refl)

    pub denoted-same : (cursor : List Scope) (name : ScopedName) → AreSame (denoted (turns + extra) cursor name) (denoted turns cursor name)
    denoted-same cursor name =
        and_then-same (first_part (turns + extra) cursor name) (first_part turns cursor name) (λ r. on (turns + extra) r.1 r.0) (λ r. on turns r.1 r.0)
        (first-same cursor name) (λ r. goes r.1 r.0)
      where
        -- what a name comes to from its first part
        from : ℕ → ℕ → Entity → Lookup (Result Found NameFault)
        from t inside first = and_then (further t 0 first name.rest) (λ last. Done (found_as (reach_of name cursor inside first) last))

        on : ℕ → ℕ → Result Entity NameFault → Lookup (Result Found NameFault)
        on t inside r = by_result r (from t inside) (λ fault. Done (Err fault))

        goes : (inside : ℕ) (r : Result Entity NameFault) → AreSame (on (turns + extra) inside r) (on turns inside r)
        goes inside (Ok first) =
            and_then-same (further (turns + extra) 0 first name.rest) (further turns 0 first name.rest)
            (λ last. Done (found_as (reach_of name cursor inside first) last)) (λ last. Done (found_as (reach_of name cursor inside first) last))
            (further-same 0 first name.rest) (λ last log. refl)
        goes inside (Err fault) = λ log. refl
