-- What a look-up finds was asked: each entity stands at a key that was.
use Rattle.std.proofs.Common.{◌≡◌, ℕ, zero, suc, ◌+◌, Bool, true, false, cond, List, [], ◌∷◌, ◌++◌, Option, Some, None, Result, Ok, Err, refl, sym, ap, ◌∙◌, subst}
use Rattle.std.specs.Prelude.{All, Contains, option_to_list, slice_get}
use Rattle.std.specs.Str.{bytes_eq}
use Rattle.std.proofs.lemmas.List.Elements.{All-append, All-cons, All-head, All-nil, All-tail}
use Rattle.idl_entity.specs.Kind.{inherits, is_scope}
use Rattle.idl_entity.specs.Path.{name_of}
use Rattle.idl_entity.specs.declared.entity.Entity.{Entity}
use Rattle.idl_entity.specs.declared.kind.Kind.{Kind}
use Rattle.idl_env.specs.Facts.{entity_in, entity_key, joined}
use Rattle.idl_env.specs.declared.answering.answer.Answer.{Answer}
use Rattle.idl_env.specs.declared.answering.answer.Scope.{Scope}
use Rattle.idl_env.specs.declared.keys.key.Key.{Key}
use Rattle.idl_env.specs.declared.keys.key.Key.TheVariants.{Declared}
use Rattle.idl_block.proofs.FactLaws.Seen.Sees.{Sees, sees-first, sees-second}
use Rattle.idl_lex.specs.kinds.Keywords.{folded}
use Rattle.idl_memo.proofs.QueryLaws.{outcome-and_then}
use Rattle.idl_memo.specs.Query.{Ask, Done, and_then, asked, outcome}
use Rattle.idl_scope.specs.Lookup.{Lookup, by_result, choose, decided, denoted, entered, first_part, found_as, further, has, is_nothing, judged, part_of, placed, reach_of, reached, searched, walk}
use Rattle.idl_scope.specs.Meaning.{bases_of}
use Rattle.idl_scope.specs.declared.fault.NameCode.{NameCode}
use Rattle.idl_scope.specs.declared.fault.NameCode.TheVariants.{NoScope, OtherSpelling}
use Rattle.idl_scope.specs.declared.fault.NameFault.{NameFault}
use Rattle.idl_scope.specs.declared.fault.NameFault.TheVariants.{At}
use Rattle.idl_scope.specs.declared.found.Found.{Found}
use Rattle.idl_scope.specs.declared.found.Reach.{Reach}
use Rattle.idl_tree.specs.declared.name.ScopedName.{ScopedName}
use Rattle.idl_root_blocks.specs.verdicts.Owned.{AreOwned}

module _ (bank : Key → Option Answer) (owned : AreOwned bank) (keys : List Key) where
  -- its key was asked
  abbrev pub IsAsked : Entity → Type 0
  IsAsked e = Contains keys (entity_key e.path)

  -- what was declared at a key that was asked
  asked-at : (n : List ℕ) (path : List (List ℕ)) (e : Entity) → Contains keys (Declared n path) → entity_in (bank (Declared n path)) ≡ Some e → IsAsked e
  asked-at n path e there is = subst (Contains keys) (sym (owned n path e is)) there

  -- the key that is asked first
  first-key : {A : Type 0} (next : Option Answer → Lookup A) (k : Key) (v : Option Answer) → All (Contains keys) (k ∷ asked (next v) bank) → Contains keys k
  first-key next k v all = All-head (Contains keys) k (asked (next v) bank) all

  -- ---- bases

  -- what is entered, by what a base itself declares
  abbrev entered_by : List (List ℕ) → Option Entity → Lookup (Option Entity × List (List (List ℕ)))
  entered_by b o = choose o (Ask (entity_key b) (λ base. Done (None, bases_of (entity_in base)))) (λ e. Done (Some e, []))

  entered-finds : (n : List ℕ) (b : List (List ℕ)) → Sees bank keys (entered n b) → (e : Entity) → (outcome (entered n b) bank).0 ≡ Some e → IsAsked e
  entered-finds n b sees e found = by (entity_in (bank (Declared n b))) refl found
    where
      there : Contains keys (Declared n b)
      there = All-head (Contains keys) (Declared n b) (asked (entered_by b (entity_in (bank (Declared n b)))) bank) sees

      by : (o : Option Entity) → entity_in (bank (Declared n b)) ≡ o
          → (outcome (entered_by b o) bank).0 ≡ Some e → IsAsked e
      by None is found = cc
      by (Some f) is found = asked-at n b e there (is ∙ found)

  one-finds : (o : Option Entity) → ((e : Entity) → o ≡ Some e → IsAsked e) → All IsAsked (option_to_list o)
  one-finds None h = All-nil IsAsked
  one-finds (Some e) h = All-cons IsAsked e [] (h e refl) (All-nil IsAsked)

  walk-finds : (turns : ℕ) (n : List ℕ) (at : ℕ) (queue : List (List (List ℕ))) (found : List Entity) → Sees bank keys (walk turns n at queue found) → All IsAsked found
      → All IsAsked (outcome (walk turns n at queue found) bank)
  unfolding walk
  walk-finds zero n at queue found sees all = all
  walk-finds (suc turns) n at queue found sees all = by (λ r sees more. walk-finds turns n (at + 1) (joined queue r.1) (found ++ option_to_list r.0) sees more) (slice_get queue at) sees
    where
      next : Option Entity × List (List (List ℕ)) → Lookup (List Entity)
      next r = walk turns n (at + 1) (joined queue r.1) (found ++ option_to_list r.0)

      by : ((r : Option Entity × List (List (List ℕ))) → Sees bank keys (walk turns n (at + 1) (joined queue r.1) (found ++ option_to_list r.0)) → All IsAsked (found ++ option_to_list r.0)
          → All IsAsked (outcome (walk turns n (at + 1) (joined queue r.1) (found ++ option_to_list r.0)) bank))
          → (o : Option (List (List ℕ)))
          → Sees bank keys (elim o as (λ _. Lookup (List Entity)) [ None ↦ Done found | Some b ↦ and_then (entered n b) (λ r. walk turns n (at + 1) (joined queue r.1) (found ++ option_to_list r.0)) ])
          → All IsAsked (outcome (elim o as (λ _. Lookup (List Entity)) [ None ↦ Done found | Some b ↦ and_then (entered n b) (λ r. walk turns n (at + 1) (joined queue r.1) (found ++ option_to_list r.0)) ]) bank)
      by rest None sees = all
      by rest (Some b) sees =
          let r : Option Entity × List (List (List ℕ)) = outcome (entered n b) bank in
          let f : Option Entity × List (List (List ℕ)) → Lookup (List Entity) = λ r. walk turns n (at + 1) (joined queue r.1) (found ++ option_to_list r.0) in
          let own = sees-first bank keys (entered n b) f sees in
          subst (All IsAsked) (sym (outcome-and_then (entered n b) f bank))
          (rest r (sees-second bank keys (entered n b) f r refl sees)
          (All-append IsAsked found (option_to_list r.0) all (one-finds r.0 (λ e is. entered-finds n b own e is))))

  reached-finds : (turns : ℕ) (n : List ℕ) (bases : List (List (List ℕ))) → Sees bank keys (reached turns n bases) → All IsAsked (outcome (reached turns n bases) bank)
  reached-finds turns n bases sees = walk-finds turns n 0 (joined [] bases) [] sees (All-nil IsAsked)

  -- ---- scopes

  abbrev has_by : ℕ → Kind → List (List ℕ) → List ℕ → Option Answer → Lookup (List Entity)
  has_by turns kind path n own =
      cond (inherits kind) (Ask (entity_key path) (λ scope. choose (entity_in own) (reached turns n (bases_of (entity_in scope))) (λ e. Done (e ∷ []))))
      (Done (option_to_list (entity_in own)))

  has-finds : (turns : ℕ) (kind : Kind) (path : List (List ℕ)) (n : List ℕ) → Sees bank keys (has turns kind path n) → All IsAsked (outcome (has turns kind path n) bank)
  has-finds turns kind path n sees = by (inherits kind) (All-tail (Contains keys) (Declared n path) (asked (has_by turns kind path n (bank (Declared n path))) bank) sees)
    where
      there : (e : Entity) → entity_in (bank (Declared n path)) ≡ Some e → IsAsked e
      there e is = asked-at n path e (first-key (has_by turns kind path n) (Declared n path) (bank (Declared n path)) sees) is

      chosen : (o : Option Entity) → entity_in (bank (Declared n path)) ≡ o
          → Sees bank keys (choose o (reached turns n (bases_of (entity_in (bank (entity_key path))))) (λ e. Done (e ∷ [])))
          → All IsAsked (outcome (choose o (reached turns n (bases_of (entity_in (bank (entity_key path))))) (λ e. Done (e ∷ []))) bank)
      chosen None is sees = reached-finds turns n (bases_of (entity_in (bank (entity_key path)))) sees
      chosen (Some e) is sees = All-cons IsAsked e [] (there e is) (All-nil IsAsked)

      by : (b : Bool)
          → Sees bank keys (cond b (Ask (entity_key path) (λ scope. choose (entity_in (bank (Declared n path))) (reached turns n (bases_of (entity_in scope))) (λ e. Done (e ∷ [])))) (Done (option_to_list (entity_in (bank (Declared n path))))))
          → All IsAsked (outcome (cond b (Ask (entity_key path) (λ scope. choose (entity_in (bank (Declared n path))) (reached turns n (bases_of (entity_in scope))) (λ e. Done (e ∷ [])))) (Done (option_to_list (entity_in (bank (Declared n path)))))) bank)
      by true sees = chosen (entity_in (bank (Declared n path))) refl (All-tail (Contains keys) (entity_key path) (asked (choose (entity_in (bank (Declared n path))) (reached turns n (bases_of (entity_in (bank (entity_key path))))) (λ e. Done (e ∷ []))) bank) sees)
      by false sees = one-finds (entity_in (bank (Declared n path))) there

  decided-finds : (turns inside : ℕ) (scopes : List Scope) (n : List ℕ) → Sees bank keys (decided turns inside scopes n) → All IsAsked (outcome (decided turns inside scopes n) bank).0
  decided-finds turns inside [] n sees = All-nil IsAsked
  decided-finds turns inside (s ∷ scopes) n sees =
      let query : Lookup (List Entity) = has turns s.kind s.path n in
      let f : List Entity → Lookup (List Entity × ℕ) = λ found. cond (is_nothing found) (decided turns (inside + 1) scopes n) (Done (found, inside)) in
      let found : List Entity = outcome query bank in
      subst (λ (d : List Entity × ℕ). All IsAsked d.0) (sym (outcome-and_then query f bank))
      (by (λ sees. decided-finds turns (inside + 1) scopes n sees) found (has-finds turns s.kind s.path n (sees-first bank keys query f sees)) (is_nothing found) (sees-second bank keys query f found refl sees))
    where
      by : (Sees bank keys (decided turns (inside + 1) scopes n) → All IsAsked (outcome (decided turns (inside + 1) scopes n) bank).0)
          → (found : List Entity) → All IsAsked found → (b : Bool) → Sees bank keys (cond b (decided turns (inside + 1) scopes n) (Done (found, inside)))
          → All IsAsked (outcome (cond b (decided turns (inside + 1) scopes n) (Done (found, inside))) bank).0
      by rest found all true sees = rest sees
      by rest found all false sees = all

  -- ---- names

  judged-finds : (name : List ℕ) (found : List Entity) (e : Entity) → All IsAsked found → judged name found ≡ Ok e → IsAsked e
  judged-finds name [] e all is = cc
  judged-finds name (x ∷ []) e all is = by (bytes_eq (name_of x.path) name) is
    where
      by : (b : Bool) → cond b (Ok x) (Err OtherSpelling) ≡ Ok e → IsAsked e
      by true is = let same : x ≡ e = cc in subst IsAsked same (All-head IsAsked x [] all)
      by false is = cc
  judged-finds name (x ∷ y ∷ found) e all is = cc

  placed-finds : (part : ℕ) (r : Result Entity NameCode) (e : Entity) → placed part r ≡ Ok e → r ≡ Ok e
  placed-finds part (Ok x) e is = let same : x ≡ e = cc in ap Ok same
  placed-finds part (Err code) e is = cc

  part-finds : (part : ℕ) (name : List ℕ) (query : Lookup (List Entity)) → (Sees bank keys query → All IsAsked (outcome query bank)) → Sees bank keys (part_of part name query)
      → (e : Entity) → outcome (part_of part name query) bank ≡ Ok e → IsAsked e
  part-finds part name query finds sees e is =
      let f : List Entity → Lookup (Result Entity NameFault) = λ found. Done (placed part (judged name found)) in
      let found : List Entity = outcome query bank in
      judged-finds name found e (finds (sees-first bank keys query f sees)) (placed-finds part (judged name found) e (sym (outcome-and_then query f bank) ∙ is))

  further-finds : (turns part : ℕ) (e : Entity) (names : List (List ℕ)) → IsAsked e → Sees bank keys (further turns part e names) → (x : Entity) → outcome (further turns part e names) bank ≡ Ok x → IsAsked x
  further-finds turns part e [] known sees x is = let same : e ≡ x = cc in subst IsAsked same known
  further-finds turns part e (name ∷ names) known sees x is = by (λ f known sees. further-finds turns (part + 1) f names known sees x) (is_scope e.kind) sees is
    where
      query : Lookup (Result Entity NameFault)
      query = part_of (part + 1) name (has turns e.kind e.path (folded name))

      by : ((f : Entity) → IsAsked f → Sees bank keys (further turns (part + 1) f names) → outcome (further turns (part + 1) f names) bank ≡ Ok x → IsAsked x)
          → (b : Bool)
          → Sees bank keys (cond b (and_then (part_of (part + 1) name (has turns e.kind e.path (folded name))) (λ r. by_result r (λ f. further turns (part + 1) f names) (λ fault. Done (Err fault)))) (Done (Err (At NoScope part))))
          → outcome (cond b (and_then (part_of (part + 1) name (has turns e.kind e.path (folded name))) (λ r. by_result r (λ f. further turns (part + 1) f names) (λ fault. Done (Err fault)))) (Done (Err (At NoScope part)))) bank ≡ Ok x
          → IsAsked x
      by rest true sees is =
          let q : Lookup (Result Entity NameFault) = part_of (part + 1) name (has turns e.kind e.path (folded name)) in
          let next : Result Entity NameFault → Lookup (Result Entity NameFault) = λ r. by_result r (λ f. further turns (part + 1) f names) (λ fault. Done (Err fault)) in
          on (outcome q bank) refl (sees-first bank keys q next sees) (sees-second bank keys q next (outcome q bank) refl sees) (sym (outcome-and_then q next bank) ∙ is)
        where
          on : (r : Result Entity NameFault) → outcome (part_of (part + 1) name (has turns e.kind e.path (folded name))) bank ≡ r
              → Sees bank keys (part_of (part + 1) name (has turns e.kind e.path (folded name)))
              → Sees bank keys (by_result r (λ f. further turns (part + 1) f names) (λ fault. Done (Err fault)))
              → outcome (by_result r (λ f. further turns (part + 1) f names) (λ fault. Done (Err fault))) bank ≡ Ok x → IsAsked x
          on (Ok f) r_is first then is =
              rest f (part-finds (part + 1) name (has turns e.kind e.path (folded name)) (has-finds turns e.kind e.path (folded name)) first f r_is) then is
          on (Err fault) r_is first then is = cc
      by rest false sees is = cc

  -- what follows the first part of a name
  abbrev behind_first : ℕ → List Scope → ScopedName → Result Entity NameFault × ℕ → Lookup (Result Found NameFault)
  behind_first turns cursor name r =
      by_result r.0 (λ f. and_then (further turns 0 f name.rest) (λ last. Done (found_as (reach_of name cursor r.1 f) last))) (λ fault. Done (Err fault))

  first-finds : (turns : ℕ) (cursor : List Scope) (name : ScopedName) (f : Entity) (inside : ℕ) → Sees bank keys (first_part turns cursor name) → outcome (first_part turns cursor name) bank ≡ (Ok f, inside) → IsAsked f
  first-finds turns cursor name f inside sees is =
      let q : Lookup (List Entity × ℕ) = decided turns 0 (searched name.is_global cursor) (folded name.first) in
      let g : List Entity × ℕ → Lookup (Result Entity NameFault × ℕ) = λ d. Done (placed 0 (judged name.first d.0), d.1) in
      let d : List Entity × ℕ = outcome q bank in
      let same : placed 0 (judged name.first d.0) ≡ Ok f = ap (λ (p : Result Entity NameFault × ℕ). p.0) (sym (outcome-and_then q g bank) ∙ is) in
      judged-finds name.first d.0 f (decided-finds turns 0 (searched name.is_global cursor) (folded name.first) (sees-first bank keys q g sees)) (placed-finds 0 (judged name.first d.0) f same)

  last-finds : (o : Result Entity NameFault) (r : Reach) (found : Found) → ((e : Entity) → o ≡ Ok e → IsAsked e) → found_as r o ≡ Ok found → IsAsked found.entity
  last-finds (Ok e) r found known is =
      let same : record { entity = e; reach = r } ≡ found = cc in
      subst (λ (x : Found). IsAsked x.entity) same (known e refl)
  last-finds (Err fault) r found known is = cc

  -- what a name denotes was asked
  pub denoted-finds : (turns : ℕ) (cursor : List Scope) (name : ScopedName) → Sees bank keys (denoted turns cursor name) → (found : Found) → outcome (denoted turns cursor name) bank ≡ Ok found → IsAsked found.entity
  denoted-finds turns cursor name sees found is =
      let first : Lookup (Result Entity NameFault × ℕ) = first_part turns cursor name in
      let next : Result Entity NameFault × ℕ → Lookup (Result Found NameFault) = behind_first turns cursor name in
      on (outcome first bank) refl (sees-first bank keys first next sees) (sees-second bank keys first next (outcome first bank) refl sees) (sym (outcome-and_then first next bank) ∙ is)
    where
      on : (r : Result Entity NameFault × ℕ) → outcome (first_part turns cursor name) bank ≡ r → Sees bank keys (first_part turns cursor name) → Sees bank keys (behind_first turns cursor name r)
          → outcome (behind_first turns cursor name r) bank ≡ Ok found → IsAsked found.entity
      on (Ok f, inside) r_is here then is =
          let query : Lookup (Result Entity NameFault) = further turns 0 f name.rest in
          let last : Result Entity NameFault → Lookup (Result Found NameFault) = λ last. Done (found_as (reach_of name cursor inside f) last) in
          last-finds (outcome query bank) (reach_of name cursor inside f) found
          (λ e o_is. further-finds turns 0 f name.rest (first-finds turns cursor name f inside here r_is) (sees-first bank keys query last then) e o_is)
          (sym (outcome-and_then query last bank) ∙ is)
      on (Err fault, inside) r_is here then is = cc
