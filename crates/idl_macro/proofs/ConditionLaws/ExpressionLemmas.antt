-- The symbols of a condition that has a value are an expression with this value.
use Rattle.std.proofs.Common.{◌≡◌, ℕ, zero, suc, ◌<◌, ◌≤◌, inl, inr, List, [], ◌∷◌, ◌++◌, Option, None, Some, ℤ, pos, refl, sym, ◌∙◌, ap, subst, arith, append_assoc, append-nil}
use Rattle.std.proofs.lemmas.Bool.Decides.{eqb_tells}
use Rattle.std.specs.Bool.{⊤}
use Rattle.idl_macro.specs.conditions.Arithmetic.{Value, checked}
use Rattle.idl_macro.specs.conditions.Operator.{rank, highest_rank, application}
use Rattle.idl_macro.specs.conditions.Condition.{Chain, Tail, End, Closed, Bad, Front, Rest, merged, levels, resolved, first_before, after_open, at_end, sign_of, sign_of_operator, signed, operand_at, operator_at, condition}
use Rattle.idl_macro.specs.conditions.Grammar.{operand_rank, HasValue, number, name, parenthesized, prefixed, infixed}
use Rattle.idl_macro.specs.declared.conditions.operator.Operator.{Operator}
use Rattle.idl_macro.specs.declared.conditions.operator.Sign.{Sign}
use Rattle.idl_macro.specs.declared.conditions.operator.Sign.TheVariants as sign
use Rattle.idl_macro.specs.declared.conditions.symbol.ConditionSymbol.{ConditionSymbol}
use Rattle.idl_macro.specs.declared.conditions.symbol.ConditionSymbol.TheVariants as symbol
use Rattle.idl_macro.proofs.ConditionLaws.ChainLemmas.{merged-here, merged-past}
use Rattle.idl_macro.proofs.ConditionLaws.GrammarLemmas.{HasRank-all}

-- ---- chains

-- The symbols are those of a chain: operators of ranks below r, each with an expression of rank r behind it.
data IsChain (r : ℕ) : List ConditionSymbol → Chain → Type 0 where
  ended : IsChain r [] []
  joined : (o : Operator) (xs : List ConditionSymbol) (v : Value) (ys : List ConditionSymbol) (c : Chain) → rank o < r → HasValue r xs v → IsChain r ys c
      → IsChain r (symbol.Operator o ∷ (xs ++ ys)) ((o, v) ∷ c)

HasValue-lower : (r s : ℕ) (ss : List ConditionSymbol) (v : Value) → s ≤ r → HasValue r ss v → HasValue s ss v
HasValue-lower _ s _ _ le (number r n) = number s n
HasValue-lower _ s _ _ le (name r) = name s
HasValue-lower _ s _ _ le (parenthesized r ss v h) = parenthesized s ss v h
HasValue-lower _ s _ _ le (prefixed r k sign ss v e h) = prefixed s k sign ss v e h
HasValue-lower _ s _ _ le (infixed r o ls rs a b low hl hr) = infixed s o ls rs a b (omega (arith, low)) hl hr

-- an operand and the chain behind it
record AreMerged (r : ℕ) (ss : List ConditionSymbol) (m : Value × Chain) : Type 0 where
  xs : List ConditionSymbol
  ys : List ConditionSymbol
  is : ss ≡ xs ++ ys
  first : HasValue r xs m.0
  chain : IsChain r ys m.1

-- after a merge all operators that are left have lower ranks
merged-chain : (r : ℕ) (xs : List ConditionSymbol) (a : Value) (ys : List ConditionSymbol) (c : Chain) → HasValue r xs a → IsChain (suc r) ys c → AreMerged r (xs ++ ys) (merged r a c)
merged-chain r xs a _ _ first ended = record { xs = xs; ys = []; is = refl; first = first; chain = ended }
merged-chain r xs a _ _ first (joined o zs v ys c low hz rest) =
    elim (eqb_tells (rank o) r) [
      | inl h ↦
          let whole : HasValue r (xs ++ symbol.Operator o ∷ zs) (application o a v) =
          infixed r o xs zs a v (omega (arith, h.1)) (subst (λ (n : ℕ). HasValue n xs a) (sym h.1) first) (subst (λ (n : ℕ). HasValue (suc n) zs v) (sym h.1) hz) in
          let m = merged-chain r (xs ++ symbol.Operator o ∷ zs) (application o a v) ys c whole rest in
          subst (λ (p : Value × Chain). AreMerged r (xs ++ symbol.Operator o ∷ (zs ++ ys)) p) (sym (merged-here r a o v c h.1))
          (record { xs = m.xs; ys = m.ys; is = sym (append_assoc xs (symbol.Operator o ∷ zs) ys) ∙ m.is; first = m.first; chain = m.chain })
      | inr h ↦
          let m = merged-chain r zs v ys c (HasValue-lower (suc r) r zs v (omega arith) hz) rest in
          let below : rank o < r = omega (arith, low, h.1) in
          subst (λ (p : Value × Chain). AreMerged r (xs ++ symbol.Operator o ∷ (zs ++ ys)) p) (sym (merged-past r a o v c h.1))
          (record {
            xs = xs;
            ys = symbol.Operator o ∷ (m.xs ++ m.ys);
            is = ap (λ l. xs ++ symbol.Operator o ∷ l) m.is;
            first = first;
            chain = joined o m.xs (merged r v c).0 m.ys (merged r v c).1 below m.first m.chain;
          })
    ]

levels-chain : (r : ℕ) (xs : List ConditionSymbol) (a : Value) (ys : List ConditionSymbol) (c : Chain) → HasValue (suc r) xs a → IsChain (suc r) ys c → HasValue 1 (xs ++ ys) (levels r (a, c)).0
levels-chain zero xs a _ _ first ended = subst (λ (l : List ConditionSymbol). HasValue 1 l a) (sym (append-nil xs)) first
levels-chain zero xs a _ _ first (joined o zs v ys c low hz rest) = let ranked = HasRank-all o in absurd (omega (arith, low, ranked.low))
levels-chain (suc r) xs a ys c first chain =
    let m = merged-chain (suc r) xs a ys c (HasValue-lower (suc (suc r)) (suc r) xs a (omega arith) first) chain in
    subst (λ (l : List ConditionSymbol). HasValue 1 l (levels (suc r) (a, c)).0) (sym m.is)
    (levels-chain r m.xs (merged (suc r) a c).0 m.ys (merged (suc r) a c).1 m.first m.chain)

resolved-chain : (xs : List ConditionSymbol) (a : Value) (ys : List ConditionSymbol) (c : Chain) → HasValue operand_rank xs a → IsChain operand_rank ys c → HasValue 1 (xs ++ ys) (resolved a c)
unfolding resolved
resolved-chain xs a ys c first chain = levels-chain highest_rank xs a ys c first chain

-- ---- what symbols are read as

-- the symbols are those of what follows a chain
data IsTail : List ConditionSymbol → Tail → Type 0 where
  over : IsTail [] End
  closed : (ys zs : List ConditionSymbol) (c : Chain) (t : Tail) → IsChain operand_rank ys c → IsTail zs t → IsTail (symbol.Close ∷ (ys ++ zs)) (Closed c t)

record IsRest (ss : List ConditionSymbol) (r : Rest) : Type 0 where
  ys : List ConditionSymbol
  zs : List ConditionSymbol
  is : ss ≡ ys ++ zs
  chain : IsChain operand_rank ys r.chain
  tail : IsTail zs r.tail

record IsFront (ss : List ConditionSymbol) (f : Front) : Type 0 where
  xs : List ConditionSymbol
  ys : List ConditionSymbol
  zs : List ConditionSymbol
  is : ss ≡ xs ++ (ys ++ zs)
  first : HasValue operand_rank xs f.first
  chain : IsChain operand_rank ys f.chain
  tail : IsTail zs f.tail

-- a tail without what no condition has
abbrev IsGood : Tail → Type 0
IsGood End = ⊤
IsGood (Closed c t) = IsGood t
IsGood Bad = ⊥

-- an operand of one symbol
one-front : (k : ConditionSymbol) (v : Value) (ss : List ConditionSymbol) (r : Rest) → HasValue operand_rank (k ∷ []) v → IsRest ss r → IsFront (k ∷ ss) (first_before v r)
one-front k v ss r first p = record { xs = k ∷ []; ys = p.ys; zs = p.zs; is = ap (λ l. k ∷ l) p.is; first = first; chain = p.chain; tail = p.tail }

signed-front : (k : ConditionSymbol) (u : Option Sign) (ss : List ConditionSymbol) (f : Front) → sign_of k ≡ u → (IsGood f.tail → IsFront ss f) → IsGood (signed u f).tail → IsFront (k ∷ ss) (signed u f)
signed-front k None ss f e read good = absurd good
signed-front k (Some s) ss f e read good =
    let p = read good in
    record { xs = k ∷ p.xs; ys = p.ys; zs = p.zs; is = ap (λ l. k ∷ l) p.is; first = prefixed operand_rank k s p.xs f.first e p.first; chain = p.chain; tail = p.tail }

IsGood-open : (v : Value) (t : Tail) → IsGood (after_open v t).tail → IsGood t
IsGood-open v End good = absurd good
IsGood-open v (Closed c t) good = good
IsGood-open v Bad good = absurd good

open-front : (ss xs ys zs : List ConditionSymbol) (v : Value) (c : Chain) (t : Tail) → ss ≡ xs ++ (ys ++ zs) → HasValue operand_rank xs v → IsChain operand_rank ys c → IsTail zs t
    → IsGood (after_open (resolved v c) t).tail → IsFront (symbol.Open ∷ ss) (after_open (resolved v c) t)
open-front ss xs ys _ v c _ e first chain over good = absurd good
open-front ss xs ys _ v c _ e first chain (closed ys' zs' c' t' chain' tail') good = record {
  xs = symbol.Open ∷ ((xs ++ ys) ++ symbol.Close ∷ []);
  ys = ys';
  zs = zs';
  is = ap (λ l. symbol.Open ∷ l) (e ∙ sym (append_assoc xs ys (symbol.Close ∷ (ys' ++ zs'))) ∙ sym (append_assoc (xs ++ ys) (symbol.Close ∷ []) (ys' ++ zs')));
  first = parenthesized operand_rank (xs ++ ys) (resolved v c) (resolved-chain xs v ys c first chain);
  chain = chain';
  tail = tail';
}

mutual
  unfolding operand_at

  front : (ss : List ConditionSymbol) → IsGood (operand_at ss).tail → IsFront ss (operand_at ss)
  front [] good = absurd good
  front (symbol.Number n ∷ ss) good = one-front (symbol.Number n) (checked (pos n)) ss (operator_at ss) (number operand_rank n) (rest ss good)
  front (symbol.Name ∷ ss) good = one-front symbol.Name (Some (pos 0)) ss (operator_at ss) (name operand_rank) (rest ss good)
  front (symbol.Operator o ∷ ss) good = signed-front (symbol.Operator o) (sign_of_operator o) ss (operand_at ss) refl (front ss) good
  front (symbol.Not ∷ ss) good = signed-front symbol.Not (Some sign.Not) ss (operand_at ss) refl (front ss) good
  front (symbol.Complement ∷ ss) good = signed-front symbol.Complement (Some sign.Complement) ss (operand_at ss) refl (front ss) good
  front (symbol.Open ∷ ss) good =
      let f = operand_at ss in
      let p = front ss (IsGood-open (resolved f.first f.chain) f.tail good) in
      open-front ss p.xs p.ys p.zs f.first f.chain f.tail p.is p.first p.chain p.tail good
  front (symbol.Close ∷ ss) good = absurd good
  front (symbol.Other ∷ ss) good = absurd good

  rest : (ss : List ConditionSymbol) → IsGood (operator_at ss).tail → IsRest ss (operator_at ss)
  rest [] good = record { ys = []; zs = []; is = refl; chain = ended; tail = over }
  rest (symbol.Number n ∷ ss) good = absurd good
  rest (symbol.Name ∷ ss) good = absurd good
  rest (symbol.Operator o ∷ ss) good =
      let p = front ss good in
      let ranked = HasRank-all o in
      record {
        ys = symbol.Operator o ∷ (p.xs ++ p.ys);
        zs = p.zs;
        is = ap (λ l. symbol.Operator o ∷ l) (p.is ∙ sym (append_assoc p.xs p.ys p.zs));
        chain = joined o p.xs (operand_at ss).first p.ys (operand_at ss).chain (omega (arith, ranked.high)) p.first p.chain;
        tail = p.tail;
      }
  rest (symbol.Not ∷ ss) good = absurd good
  rest (symbol.Complement ∷ ss) good = absurd good
  rest (symbol.Open ∷ ss) good = absurd good
  rest (symbol.Close ∷ ss) good =
      let p = rest ss good in
      let r = operator_at ss in
      record {
        ys = [];
        zs = symbol.Close ∷ ss;
        is = refl;
        chain = ended;
        tail = subst (λ (l : List ConditionSymbol). IsTail (symbol.Close ∷ l) (Closed r.chain r.tail)) (sym p.is) (closed p.ys p.zs r.chain r.tail p.chain p.tail);
      }
  rest (symbol.Other ∷ ss) good = absurd good

IsTail-end : (zs : List ConditionSymbol) → IsTail zs End → zs ≡ []
IsTail-end _ over = refl

whole : (ss : List ConditionSymbol) (a : Value) (c : Chain) (t : Tail) (v : ℤ) → (IsGood t → IsFront ss (record { first = a; chain = c; tail = t })) → at_end (resolved a c) t ≡ Some v → HasValue 1 ss (Some v)
whole ss a c End v read e =
    let p = read (tt {0}) in
    let is : ss ≡ p.xs ++ p.ys = p.is ∙ ap (λ l. p.xs ++ (p.ys ++ l)) (IsTail-end p.zs p.tail) ∙ ap (λ l. p.xs ++ l) (append-nil p.ys) in
    subst (λ (l : List ConditionSymbol). HasValue 1 l (Some v)) (sym is)
    (subst (λ (w : Value). HasValue 1 (p.xs ++ p.ys) w) e (resolved-chain p.xs a p.ys c p.first p.chain))
whole ss a c (Closed d t) v read e = cc
whole ss a c Bad v read e = cc

pub expression-condition : (ss : List ConditionSymbol) (v : ℤ) → condition ss ≡ Some v → HasValue 1 ss (Some v)
unfolding condition
expression-condition ss v e = whole ss (operand_at ss).first (operand_at ss).chain (operand_at ss).tail v (front ss) e
