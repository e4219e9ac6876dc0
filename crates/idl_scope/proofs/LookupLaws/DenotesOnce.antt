-- A scoped name denotes one thing.
use Rattle.std.proofs.Common.{◌≡◌, ℕ, ◌+◌, Bool, true, false, List, [], ◌∷◌, Option, Result, Ok, Err, refl, ap, ◌∙◌, sym, subst}
use Rattle.std.specs.Prelude.{MatchBool}
use Rattle.idl_lex.specs.kinds.Keywords.{folded}
use Rattle.idl_entity.specs.Kind.{is_scope}
use Rattle.idl_entity.specs.idl_tree.declared.name.ScopedName.{ScopedName}
use Rattle.idl_scope.specs.Lookup.{searched}
use Rattle.idl_scope.specs.Meaning.{Has, FirstHas, Judges, Goes, DenotesIn, Denotes}
use Rattle.idl_entity.specs.Path.{name_of}
use Rattle.idl_env.specs.declared.answering.answer.Answer.{Answer}
use Rattle.idl_env.specs.declared.answering.answer.Scope.{Scope}
use Rattle.idl_entity.specs.declared.entity.Entity.{Entity}
use Rattle.idl_scope.specs.declared.fault.NameCode.{NameCode}
use Rattle.idl_scope.specs.declared.fault.NameCode.TheVariants.{Undeclared, Ambiguous, OtherSpelling, NoScope}
use Rattle.idl_scope.specs.declared.fault.NameFault.{NameFault}
use Rattle.idl_scope.specs.declared.fault.NameFault.TheVariants.{At}
use Rattle.idl_env.specs.declared.keys.key.Key.{Key}

-- a set is judged in one way
judges_once : (P : Entity → Type 0) (name : List ℕ) (j k : Result Entity NameCode) → Judges P name j → Judges P name k → j ≡ k
judges_once P name (Ok e) (Ok f) a b = ap Ok (b.1.0 e a.0)
judges_once P name (Ok e) (Err Undeclared) a b = absurd (b e a.0)
judges_once P name (Ok e) (Err Ambiguous) a b = absurd (b.4 (a.1.0 b.0 b.2 ∙ sym (a.1.0 b.1 b.3)))
judges_once P name (Ok e) (Err OtherSpelling) a b = absurd (b.2.1 (ap (λ x. name_of x.path) (a.1.0 b.0 b.1) ∙ a.1.1))
judges_once P name (Ok e) (Err NoScope) a b = absurd b
judges_once P name (Err Undeclared) (Ok f) a b = absurd (a f b.0)
judges_once P name (Err Undeclared) (Err Undeclared) a b = refl
judges_once P name (Err Undeclared) (Err Ambiguous) a b = absurd (a b.0 b.2)
judges_once P name (Err Undeclared) (Err OtherSpelling) a b = absurd (a b.0 b.1)
judges_once P name (Err Undeclared) (Err NoScope) a b = absurd b
judges_once P name (Err Ambiguous) (Ok f) a b = absurd (a.4 (b.1.0 a.0 a.2 ∙ sym (b.1.0 a.1 a.3)))
judges_once P name (Err Ambiguous) (Err Undeclared) a b = absurd (b a.0 a.2)
judges_once P name (Err Ambiguous) (Err Ambiguous) a b = refl
judges_once P name (Err Ambiguous) (Err OtherSpelling) a b = absurd (a.4 (b.2.0 a.0 a.2 ∙ sym (b.2.0 a.1 a.3)))
judges_once P name (Err Ambiguous) (Err NoScope) a b = absurd b
judges_once P name (Err OtherSpelling) (Ok f) a b = absurd (a.2.1 (ap (λ x. name_of x.path) (b.1.0 a.0 a.1) ∙ b.1.1))
judges_once P name (Err OtherSpelling) (Err Undeclared) a b = absurd (b a.0 a.1)
judges_once P name (Err OtherSpelling) (Err Ambiguous) a b = absurd (b.4 (a.2.0 b.0 b.2 ∙ sym (a.2.0 b.1 b.3)))
judges_once P name (Err OtherSpelling) (Err OtherSpelling) a b = refl
judges_once P name (Err OtherSpelling) (Err NoScope) a b = absurd b
judges_once P name (Err NoScope) k a b = absurd a

-- a part that is judged goes on to one result, where the rest does
goes_once : (part : ℕ) (On : Entity → Result Entity NameFault → Type 0) → ((e : Entity) (r s : Result Entity NameFault) → On e r → On e s → r ≡ s)
    → (j : Result Entity NameCode) (r s : Result Entity NameFault) → Goes part j (λ e. On e r) r → Goes part j (λ e. On e s) s → r ≡ s
goes_once part On once (Ok e) r s a b = once e r s a b
goes_once part On once (Err code) r s a b = a ∙ sym b

module _ (answers : Key → Option Answer) where
  -- two judgements of one set, and what they go on to
  judged_once : (P : Entity → Type 0) (name : List ℕ) (part : ℕ) (On : Entity → Result Entity NameFault → Type 0) → ((e : Entity) (r s : Result Entity NameFault) → On e r → On e s → r ≡ s) → (r s : Result Entity NameFault)
      → (j : Result Entity NameCode) → Judges P name j → Goes part j (λ e. On e r) r → (k : Result Entity NameCode) → Judges P name k → Goes part k (λ e. On e s) s → r ≡ s
  judged_once P name part On once r s j a g k b h =
      let Q : Result Entity NameCode → Type 0 = λ i. Goes part i (λ e. On e s) s in
      goes_once part On once j r s g (subst Q (judges_once P name k j b a) h)

  denotes_in_once : (part : ℕ) (e : Entity) (names : List (List ℕ)) (r s : Result Entity NameFault) → DenotesIn answers part e names r → DenotesIn answers part e names s → r ≡ s
  denotes_in_once part e [] r s a b = a ∙ sym b
  denotes_in_once part e (name ∷ names) r s a b = by_kind (is_scope e.kind) (λ f. denotes_in_once (part + 1) f names) a b
    where
      by_kind : (t : Bool) → ((f : Entity) (q u : Result Entity NameFault) → DenotesIn answers (part + 1) f names q → DenotesIn answers (part + 1) f names u → q ≡ u)
          → MatchBool t ((j : Result Entity NameCode) × Judges (Has answers e.kind e.path (folded name)) name j × Goes (part + 1) j (λ f. DenotesIn answers (part + 1) f names r) r) (r ≡ Err (At NoScope part))
          → MatchBool t ((j : Result Entity NameCode) × Judges (Has answers e.kind e.path (folded name)) name j × Goes (part + 1) j (λ f. DenotesIn answers (part + 1) f names s) s) (s ≡ Err (At NoScope part)) → r ≡ s
      by_kind true once h k = judged_once (Has answers e.kind e.path (folded name)) name (part + 1) (λ f q. DenotesIn answers (part + 1) f names q) once r s h.0 h.1 h.2 k.0 k.1 k.2
      by_kind false once h k = h ∙ sym k

  pub denotes_once : (cursor : List Scope) (name : ScopedName) (r s : Result Entity NameFault) → Denotes answers cursor name r → Denotes answers cursor name s → r ≡ s
  denotes_once cursor name r s a b = judged_once (FirstHas answers (searched name.is_global cursor) (folded name.first)) name.first 0 (λ f q. DenotesIn answers 0 f name.rest q) (λ f q u. denotes_in_once 0 f name.rest q u) r s a.0 a.1 a.2 b.0 b.1 b.2
