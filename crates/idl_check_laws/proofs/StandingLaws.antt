-- What a name denotes is declared in a scope.
use Rattle.std.proofs.Common.{◌≡◌, ℕ, ◌+◌, Bool, true, false, List, [], ◌∷◌, Option, Some, Result, Ok, Err, sym, subst, inl, inr}
use Rattle.std.specs.Prelude.{MatchBool}
use Rattle.idl_lex.specs.kinds.Keywords.{folded}
use Rattle.idl_entity.specs.Kind.{is_scope}
use Rattle.idl_scope.specs.Meaning.{Denotes, DenotesIn, FirstHas, Goes, Has, Judges, Own, Through, Up, own_at, searched}
use Rattle.idl_env.specs.declared.answering.answer.Answer.{Answer}
use Rattle.idl_env.specs.declared.answering.answer.Scope.{Scope}
use Rattle.idl_entity.specs.declared.entity.Entity.{Entity}
use Rattle.idl_scope.specs.declared.fault.NameCode.{NameCode}
use Rattle.idl_scope.specs.declared.fault.NameCode.TheVariants.{NoScope}
use Rattle.idl_scope.specs.declared.fault.NameFault.TheVariants.{At}
use Rattle.idl_env.specs.declared.keys.key.Key.{Key}
use Rattle.idl_entity.specs.declared.kind.Kind.{Kind}
use Rattle.idl_tree.specs.declared.name.ScopedName.{ScopedName}

module _ (bank : Key → Option Answer) where
  -- it is declared under some name, somewhere
  abbrev pub IsDeclared : Entity → Type 0
  IsDeclared e = (n : List ℕ) × (path : List (List ℕ)) × (own_at bank n path ≡ Some e)

  through-declared : (n : List ℕ) {bases : List (List (List ℕ))} {e : Entity} → Through bank n bases e → IsDeclared e
  through-declared n (Own b i h) = (n, b, h)
  through-declared n (Up b i none t) = through-declared n t

  has-declared : (kind : Kind) (path : List (List ℕ)) (n : List ℕ) (e : Entity) → Has bank kind path n e → IsDeclared e
  has-declared kind path n e (inl h) = (n, path, h)
  has-declared kind path n e (inr h) = through-declared n h.1.1

  first-declared : (scopes : List Scope) (n : List ℕ) (e : Entity) → FirstHas bank scopes n e → IsDeclared e
  first-declared [] n e h = absurd h
  first-declared (s ∷ scopes) n e (inl h) = has-declared s.kind s.path n e h
  first-declared (s ∷ scopes) n e (inr h) = first-declared scopes n e h.1

  further-declared : (part : ℕ) (f e : Entity) (names : List (List ℕ)) → IsDeclared f → DenotesIn bank part f names (Ok e) → IsDeclared e
  further-declared part f e [] at h = let same : e ≡ f = cc in subst IsDeclared (sym same) at
  further-declared part f e (name ∷ names) at h = by_scope (λ g. further-declared (part + 1) g e names) (is_scope f.kind) h
    where
      goes : (j : Result Entity NameCode) → Judges (Has bank f.kind f.path (folded name)) name j
          → ((g : Entity) → IsDeclared g → DenotesIn bank (part + 1) g names (Ok e) → IsDeclared e)
          → Goes (part + 1) j (λ g. DenotesIn bank (part + 1) g names (Ok e)) (Ok e) → IsDeclared e
      goes (Ok g) judged on next = on g (has-declared f.kind f.path (folded name) g judged.0) next
      goes (Err code) judged on next = cc

      by_scope : ((g : Entity) → IsDeclared g → DenotesIn bank (part + 1) g names (Ok e) → IsDeclared e) → (b : Bool)
          → MatchBool b
          ((j : Result Entity NameCode) × Judges (Has bank f.kind f.path (folded name)) name j × Goes (part + 1) j (λ g. DenotesIn bank (part + 1) g names (Ok e)) (Ok e))
          (Ok e ≡ Err (At NoScope part)) → IsDeclared e
      by_scope on true r = goes r.0 r.1 on r.2
      by_scope on false r = cc

  pub denoted-declared : (cursor : List Scope) (name : ScopedName) (e : Entity) → Denotes bank cursor name (Ok e) → IsDeclared e
  denoted-declared cursor name e h = goes h.0 h.1 h.2
    where
      goes : (j : Result Entity NameCode) → Judges (FirstHas bank (searched name.is_global cursor) (folded name.first)) name.first j
          → Goes 0 j (λ f. DenotesIn bank 0 f name.rest (Ok e)) (Ok e) → IsDeclared e
      goes (Ok f) judged next = further-declared 0 f e name.rest (first-declared (searched name.is_global cursor) (folded name.first) f judged.0) next
      goes (Err code) judged next = cc
