-- What is matched, by the next line.
use Rattle.std.proofs.Common.{◌≡◌, ◌≤◌, ◌-◌, ℕ, true, false, List, [], ◌∷◌, ◌++◌, ap, sym, subst, ◌∙◌, inl, inr, append_assoc, drop, length, length-append, map, arith, slice_range, take}
use Rattle.std.proofs.Math.Seq.{drop-append_seam}
use Rattle.std.proofs.lemmas.List.{append-nil, drop-append-le, take-append-le, take_all, length-drop}
use Rattle.std.proofs.lemmas.List.Elements.{All-cons, All-head, All-nil, All-push, All-tail, All-weaker}
use Rattle.std.specs.List.{All}
use Rattle.idl_lex.specs.declared.tokens.token.PlacedToken.{PlacedToken}
use Rattle.idl_text.specs.Jump.{IsJump, IsNextOfGroup, fault_at}
use Rattle.idl_text.specs.Line.{Directive, Line, Directed, Text}
use Rattle.idl_text.specs.Matching.{AreOpen, IsMatched, IsSpan, span_of}
use Rattle.idl_text.specs.Tree.{IsBranch, is_else}
use Rattle.idl_text.specs.TreeLaw.{IsLineAlone}
use Rattle.idl_text.specs.declared.groups.branch.BranchSpan.{BranchSpan}
use Rattle.idl_text.specs.declared.groups.branch.OpenBranch.{OpenBranch}
use Rattle.idl_text.specs.declared.groups.fault.GroupFault.{GroupFault}
use Rattle.idl_text.specs.declared.groups.fault.Misplaced.TheVariants.{OutOfPlace, NotClosed}
use Rattle.idl_text.specs.declared.groups.kind.DirectiveKind.TheVariants.{Endif, Opening}
use Rattle.idl_text.specs.declared.groups.kind.Test.{Test}
use Rattle.idl_text.proofs.MatchingLemmas.{open-alone, open-branch, open-endif, open-opening, open-stray, open-unclosed}

-- the end of a list, behind as many as there are before it
slice_range-end : (xs before behind : List GroupFault) (n : ℕ) → before ++ behind ≡ xs → length before ≡ n → slice_range xs n (length xs) ≡ behind
slice_range-end xs before behind n is count =
    let dropped : drop n xs ≡ behind = ap (λ k. drop k xs) (sym count) ∙ ap (drop (length before)) (sym is) ∙ drop-append_seam before behind in
    take_all (length xs - n) (drop n xs) (let e : length (drop n xs) ≡ length xs - n = length-drop n xs in omega arith) ∙ dropped

-- a part of a list, with more behind
slice_range-more : (xs ys : List GroupFault) (a b : ℕ) → a ≤ b → b ≤ length xs → slice_range (xs ++ ys) a b ≡ slice_range xs a b
slice_range-more xs ys a b order within =
    let e : length (drop a xs) ≡ length xs - a = length-drop a xs in
    ap (take (b - a)) (drop-append-le a xs ys (omega arith)) ∙ take-append-le (b - a) (drop a xs) ys (omega arith)

module _ (lines : ℕ → List Line) where
  -- later, with more faults
  span-later : (at after : ℕ) (xs ys : List GroupFault) (s : BranchSpan) → at ≤ after → IsSpan lines at xs s → IsSpan lines after (xs ++ ys) s
  span-later at after xs ys s later span = record {
    order = span.order;
    within = omega (arith, span.within, later);
    faults_order = span.faults_order;
    faults_within = omega (arith, span.faults_within, length-append xs ys);
    jump = subst (IsJump s.has_else (lines s.from) (lines s.to)) (sym (slice_range-more xs ys s.first_fault s.end_fault span.faults_order span.faults_within)) span.jump;
  }

  spans-later : (at after : ℕ) (xs ys zs : List GroupFault) (ss : List BranchSpan) → zs ≡ xs ++ ys → at ≤ after → All (IsSpan lines at xs) ss → All (IsSpan lines after zs) ss
  spans-later at after xs ys zs ss is later spans =
      subst (λ (zs : List GroupFault). All (IsSpan lines after zs) ss) (sym is)
      (All-weaker (IsSpan lines at xs) (IsSpan lines after (xs ++ ys)) (λ s span. span-later at after xs ys s later span) ss spans)

  spans-same : (at after : ℕ) (xs : List GroupFault) (ss : List BranchSpan) → at ≤ after → All (IsSpan lines at xs) ss → All (IsSpan lines after xs) ss
  spans-same at after xs ss later spans = spans-later at after xs [] xs ss (sym (append-nil xs)) later spans

  come-later : (at after : ℕ) (bs : List OpenBranch) → at ≤ after → All (λ (b : OpenBranch). b.from ≤ at) bs → All (λ (b : OpenBranch). b.from ≤ after) bs
  come-later at after bs later come = All-weaker (λ (b : OpenBranch). b.from ≤ at) (λ (b : OpenBranch). b.from ≤ after) (λ b h. omega (arith, h, later)) bs come

  -- the innermost branch has come to its end
  span-ended : (at : ℕ) (xs : List GroupFault) (b : OpenBranch) (bs : List OpenBranch) → b.from ≤ at → IsNextOfGroup b.has_else (lines at)
      → AreOpen lines (lines at) xs (b ∷ bs) → IsSpan lines at xs (span_of b at (length xs))
  span-ended at xs b bs come next (found, opened, around) =
      let before = found.outside ++ found.before in
      let count : length before ≡ b.faults = length-append found.outside found.before ∙ opened.count in
      let is : before ++ found.inside ≡ xs = append_assoc found.outside found.before found.inside ∙ opened.all in
      record {
        order = come;
        within = omega arith;
        faults_order = omega (arith, count, ap length is, length-append before found.inside);
        faults_within = omega arith;
        jump = subst (IsJump b.has_else (lines b.from) (lines at)) (sym (slice_range-end xs before found.inside b.faults is count)) (opened.passed, next);
      }

  -- ---- the next line

  pub matched-alone : (at after : ℕ) (l : Line) (bs : List OpenBranch) (ss : List BranchSpan) (xs : List GroupFault) → IsLineAlone l → at ≤ after → lines at ≡ l ∷ lines after
      → IsMatched lines at bs ss xs → IsMatched lines after bs ss xs
  matched-alone at after l bs ss xs alone later is m = record {
    are_spans = spans-same at after xs ss later m.are_spans;
    come = come-later at after bs later m.come;
    are_open = open-alone lines l (lines after) xs bs alone (subst (λ (ls : List Line). AreOpen lines ls xs bs) is m.are_open);
  }

  opens-alone : (texts : List (List PlacedToken)) (rest : List Line) (xs : List GroupFault) (bs : List OpenBranch) → AreOpen lines (map Text texts ++ rest) xs bs → AreOpen lines rest xs bs
  opens-alone [] rest xs bs are = are
  opens-alone (text ∷ texts) rest xs bs are = opens-alone texts rest xs bs (open-alone lines (Text text) (map Text texts ++ rest) xs bs tt are)

  -- and so are the next lines, if they are all of text
  pub matched-texts : (at after : ℕ) (texts : List (List PlacedToken)) (bs : List OpenBranch) (ss : List BranchSpan) (xs : List GroupFault) → at ≤ after → lines at ≡ map Text texts ++ lines after
      → IsMatched lines at bs ss xs → IsMatched lines after bs ss xs
  matched-texts at after texts bs ss xs later is m = record {
    are_spans = spans-same at after xs ss later m.are_spans;
    come = come-later at after bs later m.come;
    are_open = opens-alone texts (lines after) xs bs (subst (λ (ls : List Line). AreOpen lines ls xs bs) is m.are_open);
  }

  pub matched-opening : (at after : ℕ) (d : Directive) (what : Test) (b : OpenBranch) (bs cs : List OpenBranch) (ss : List BranchSpan) (xs : List GroupFault) → d.kind ≡ Opening what → at ≤ after
      → lines at ≡ Directed d ∷ lines after → cs ≡ b ∷ bs → b.from ≡ after → b.faults ≡ length xs → b.has_else ≡ false → b.unclosed ≡ fault_at NotClosed d
      → IsMatched lines at bs ss xs → IsMatched lines after cs ss xs
  matched-opening at after d what b bs cs ss xs opens later is pushed from count none unclosed m =
      subst (λ (cs : List OpenBranch). IsMatched lines after cs ss xs) (sym pushed) (record {
        are_spans = spans-same at after xs ss later m.are_spans;
        come = All-cons (λ (b : OpenBranch). b.from ≤ after) b bs (omega (arith, from)) (come-later at after bs later m.come);
        are_open =
            open-opening lines d what (lines after) xs b bs opens (ap lines from) count none unclosed
            (subst (λ (ls : List Line). AreOpen lines ls xs bs) is m.are_open);
      })

  -- a directive is out of place where no group is open
  pub matched-stray-outside : (at after : ℕ) (bs cs : List OpenBranch) (ss ts : List BranchSpan) (xs ys zs : List GroupFault) → at ≤ after → bs ≡ [] → cs ≡ [] → ts ≡ ss → zs ≡ xs ++ ys
      → IsMatched lines at bs ss xs → IsMatched lines after cs ts zs
  matched-stray-outside at after bs cs ss ts xs ys zs later none still same grown m = record {
    are_spans = subst (All (IsSpan lines after zs)) (sym same) (spans-later at after xs ys zs ss grown later m.are_spans);
    come = subst (All (λ (b : OpenBranch). b.from ≤ after)) (sym still) (All-nil (λ (b : OpenBranch). b.from ≤ after));
    are_open = subst (AreOpen lines (lines after) zs) (sym still) tt;
  }

  -- a directive is out of place behind an `else`
  pub matched-stray : (at after : ℕ) (d : Directive) (b : OpenBranch) (bs cs ds : List OpenBranch) (ss ts : List BranchSpan) (xs zs : List GroupFault) → IsBranch d.kind → b.has_else ≡ true → at ≤ after
      → lines at ≡ Directed d ∷ lines after → cs ≡ b ∷ bs → ds ≡ b ∷ bs → ts ≡ ss → zs ≡ xs ++ fault_at OutOfPlace d ∷ []
      → IsMatched lines at cs ss xs → IsMatched lines after ds ts zs
  matched-stray at after d b bs cs ds ss ts xs zs branch has_else later is was still same grown m =
      let opened : AreOpen lines (Directed d ∷ lines after) xs (b ∷ bs) = subst (λ (ls : List Line). AreOpen lines ls xs (b ∷ bs)) is (subst (AreOpen lines (lines at) xs) was m.are_open) in
      record {
        are_spans = subst (All (IsSpan lines after zs)) (sym same) (spans-later at after xs (fault_at OutOfPlace d ∷ []) zs ss grown later m.are_spans);
        come = subst (All (λ (b : OpenBranch). b.from ≤ after)) (was ∙ sym still) (come-later at after cs later m.come);
        are_open =
            subst (AreOpen lines (lines after) zs) (sym still)
            (subst (λ (zs : List GroupFault). AreOpen lines (lines after) zs (b ∷ bs)) (sym grown) (open-stray lines d (lines after) xs b bs branch has_else opened));
      }

  -- the innermost branch ends here
  ended : (at : ℕ) (b : OpenBranch) (bs cs : List OpenBranch) (ss ts : List BranchSpan) (xs : List GroupFault) → IsNextOfGroup b.has_else (lines at) → cs ≡ b ∷ bs
      → ts ≡ ss ++ span_of b at (length xs) ∷ [] → IsMatched lines at cs ss xs → All (IsSpan lines at xs) ts
  ended at b bs cs ss ts xs next was closed m =
      let come = All-head (λ (b : OpenBranch). b.from ≤ at) b bs (subst (All (λ (b : OpenBranch). b.from ≤ at)) was m.come) in
      subst (All (IsSpan lines at xs)) (sym closed)
      (All-push (IsSpan lines at xs) ss (span_of b at (length xs)) m.are_spans (span-ended at xs b bs come next (subst (AreOpen lines (lines at) xs) was m.are_open)))

  come-outside : (at : ℕ) (b : OpenBranch) (bs cs : List OpenBranch) (ss : List BranchSpan) (xs : List GroupFault) → cs ≡ b ∷ bs → IsMatched lines at cs ss xs → All (λ (b : OpenBranch). b.from ≤ at) bs
  come-outside at b bs cs ss xs was m = All-tail (λ (b : OpenBranch). b.from ≤ at) b bs (subst (All (λ (b : OpenBranch). b.from ≤ at)) was m.come)

  pub matched-branch : (at after : ℕ) (d : Directive) (b c : OpenBranch) (bs cs ds : List OpenBranch) (ss ts : List BranchSpan) (xs zs : List GroupFault) → IsBranch d.kind → b.has_else ≡ false → at ≤ after
      → lines at ≡ Directed d ∷ lines after → cs ≡ b ∷ bs → ds ≡ c ∷ bs → ts ≡ ss ++ span_of b at (length xs) ∷ [] → zs ≡ xs
      → c.from ≡ after → c.faults ≡ length xs → c.has_else ≡ is_else d.kind → c.unclosed ≡ b.unclosed
      → IsMatched lines at cs ss xs → IsMatched lines after ds ts zs
  matched-branch at after d b c bs cs ds ss ts xs zs branch none later is was now closed same from count goes_on unclosed m =
      let next : IsNextOfGroup b.has_else (lines at) = subst (IsNextOfGroup b.has_else) (sym is) (inr (none, branch)) in
      let opened : AreOpen lines (Directed d ∷ lines after) xs (b ∷ bs) = subst (λ (ls : List Line). AreOpen lines ls xs (b ∷ bs)) is (subst (AreOpen lines (lines at) xs) was m.are_open) in
      subst (IsMatched lines after ds ts) (sym same) (subst (λ (ds : List OpenBranch). IsMatched lines after ds ts xs) (sym now) (record {
        are_spans = spans-same at after xs ts later (ended at b bs cs ss ts xs next was closed m);
        come = All-cons (λ (b : OpenBranch). b.from ≤ after) c bs (omega (arith, from)) (come-later at after bs later (come-outside at b bs cs ss xs was m));
        are_open = open-branch lines d (lines after) xs b c bs branch none (ap lines from) count goes_on unclosed opened;
      }))

  pub matched-endif : (at after : ℕ) (d : Directive) (b : OpenBranch) (bs cs ds : List OpenBranch) (ss ts : List BranchSpan) (xs zs : List GroupFault) → d.kind ≡ Endif → at ≤ after
      → lines at ≡ Directed d ∷ lines after → cs ≡ b ∷ bs → ds ≡ bs → ts ≡ ss ++ span_of b at (length xs) ∷ [] → zs ≡ xs
      → IsMatched lines at cs ss xs → IsMatched lines after ds ts zs
  matched-endif at after d b bs cs ds ss ts xs zs ends later is was now closed same m =
      let next : IsNextOfGroup b.has_else (lines at) = subst (IsNextOfGroup b.has_else) (sym is) (inl ends) in
      let opened : AreOpen lines (Directed d ∷ lines after) xs (b ∷ bs) = subst (λ (ls : List Line). AreOpen lines ls xs (b ∷ bs)) is (subst (AreOpen lines (lines at) xs) was m.are_open) in
      subst (IsMatched lines after ds ts) (sym same) (subst (λ (ds : List OpenBranch). IsMatched lines after ds ts xs) (sym now) (record {
        are_spans = spans-same at after xs ts later (ended at b bs cs ss ts xs next was closed m);
        come = come-later at after bs later (come-outside at b bs cs ss xs was m);
        are_open = open-endif lines d (lines after) xs b bs ends opened;
      }))

  -- the file ends inside a group
  pub matched-unclosed : (at : ℕ) (b : OpenBranch) (bs cs ds : List OpenBranch) (ss ts : List BranchSpan) (xs ys zs : List GroupFault) → lines at ≡ [] → cs ≡ b ∷ bs → ds ≡ bs
      → ts ≡ ss ++ span_of b at (length xs) ∷ [] → ys ≡ xs → zs ≡ ys ++ b.unclosed ∷ [] → IsMatched lines at cs ss xs → IsMatched lines at ds ts zs
  matched-unclosed at b bs cs ds ss ts xs ys zs end was now closed same grown m =
      let next : IsNextOfGroup b.has_else (lines at) = subst (IsNextOfGroup b.has_else) (sym end) tt in
      let opened : AreOpen lines [] xs (b ∷ bs) = subst (λ (ls : List Line). AreOpen lines ls xs (b ∷ bs)) end (subst (AreOpen lines (lines at) xs) was m.are_open) in
      let more : zs ≡ xs ++ b.unclosed ∷ [] = grown ∙ ap (λ (ys : List GroupFault). ys ++ b.unclosed ∷ []) same in
      subst (λ (ds : List OpenBranch). IsMatched lines at ds ts zs) (sym now) (record {
        are_spans = spans-later at at xs (b.unclosed ∷ []) zs ts more (omega arith) (ended at b bs cs ss ts xs next was closed m);
        come = come-outside at b bs cs ss xs was m;
        are_open =
            subst (λ (ls : List Line). AreOpen lines ls zs bs) (sym end)
            (subst (λ (zs : List GroupFault). AreOpen lines [] zs bs) (sym more) (open-unclosed lines xs b bs opened));
      })
