-- A change of a text is a splice of the lines that it touches.
use Rattle.std.proofs.Common.{◌≡◌, ◌∙◌, ◌+◌, ◌-◌, ◌<◌, ◌≤◌, ◌⊎◌, ℕ, List, [], ◌∷◌, ◌++◌, length, take, drop, slice_range, sym, ap, subst, inl, inr, arith, append_assoc, length-append, length-drop}
use Rattle.std.proofs.lemmas.Bool.Decides.{nat_tests}
use Rattle.std.proofs.lemmas.List.{append-nil, drop-append-le, drop-take, take-append-drop, length-take-le, nil_from_length}
use Rattle.std.proofs.lemmas.List.Folds.{drop_split}
use Rattle.std.proofs.Math.Seq.{take-add, take-append_seam, drop-append-add, drop-append_seam}
use Rattle.idl_base.specs.declared.texts.ByteRange.{ByteRange}
use Rattle.idl_source.specs.texts.Cut.{cut_lines}
use Rattle.idl_editor.specs.Changes.{replaced}
use Rattle.idl_editor.specs.Splices.{EndsLine, IsSplice, IsWholeAround}
use Rattle.idl_editor.specs.declared.splice.LineSplice.{LineSplice}
use Rattle.idl_editor.proofs.CutLemmas.{cut-ended}

-- where bytes end a line, so do the last of them
part-ends : (text : List ℕ) (from to : ℕ) → from < to → to ≤ length text → EndsLine (take to text) → (front : List ℕ) × (slice_range text from to ≡ front ++ 10 ∷ [])
part-ends text from to some within (inl none) = absurd (omega (arith, ap length none, length-take-le to text within))
part-ends text from to some within (inr ends) =
    let size : length (ends.0 ++ 10 ∷ []) ≡ to = sym (ap length ends.1) ∙ length-take-le to text within in
    let fits : from ≤ length ends.0 = omega (arith, size, length-append ends.0 (10 ∷ [])) in
    let whole : from + (to - from) ≡ to = omega arith in (
      drop from ends.0,
      sym (drop-take from (to - from) text) ∙ ap (λ n. drop from (take n text)) whole ∙ ap (drop from) ends.1 ∙ drop-append-le from ends.0 (10 ∷ []) fits,
    )

-- lines that end, or behind which nothing comes, are cut apart from what comes
cut-apart : (text more : List ℕ) → (more ≡ []) ⊎ EndsLine text → cut_lines (text ++ more) ≡ cut_lines text ++ cut_lines more
cut-apart text more (inl none) =
    ap (λ m. cut_lines (text ++ m)) none ∙ ap cut_lines (append-nil text) ∙ sym (append-nil (cut_lines text)) ∙ sym (ap (λ m. cut_lines text ++ cut_lines m) none)
cut-apart text more (inr ends) = cut-ended text more ends

-- three pieces of which the first ends a line, and the second does or is the last
cut-three : (a b c : List ℕ) → EndsLine a → (c ≡ []) ⊎ EndsLine b → cut_lines (a ++ (b ++ c)) ≡ cut_lines a ++ (cut_lines b ++ cut_lines c)
cut-three a b c first second = cut-ended a (b ++ c) first ∙ ap (λ l. cut_lines a ++ l) (cut-apart b c second)

-- a text in three pieces
three : (text : List ℕ) (from to : ℕ) → from ≤ to → text ≡ take from text ++ (slice_range text from to ++ drop to text)
three text from to ordered = sym (take-append-drop from text) ∙ ap (λ t. take from text ++ t) (drop_split text from to ordered)

-- the first piece of a text, cut at an earlier place
first-part : (text : List ℕ) (from to : ℕ) → from ≤ to → take to text ≡ take from text ++ slice_range text from to
first-part text from to ordered =
    let whole : from + (to - from) ≡ to = omega arith in
    ap (λ n. take n text) (sym whole) ∙ take-add from (to - from) text

-- a change within whole lines
replaced-within : (text new : List ℕ) (range whole : ByteRange) → range.from ≤ range.to → whole.from ≤ range.from → range.to ≤ whole.to
    → replaced text range new ≡ take whole.from text ++ (((slice_range text whole.from range.from ++ new) ++ slice_range text range.to whole.to) ++ drop whole.to text)
replaced-within text new range whole ordered before after =
    let x = take whole.from text in
    let y = slice_range text whole.from range.from in
    let z = slice_range text range.to whole.to in
    let w = drop whole.to text in
    ap (λ t. t ++ (new ++ drop range.to text)) (first-part text whole.from range.from before)
    ∙ ap (λ t. (x ++ y) ++ (new ++ t)) (drop_split text range.to whole.to after)
    ∙ simp append_assoc

-- a splice of lines in three parts
splice-three : (a b c m : List (List ℕ)) (splice : LineSplice) → splice.span.from ≡ length a + 1 → splice.span.del ≡ length b → splice.lines.items ≡ m
    → IsSplice (a ++ (b ++ c)) splice (a ++ (m ++ c))
splice-three a b c m splice from del lines = record {
  inside = grind (arith, nat_tests, length-append a (b ++ c), length-append b c, from, del);
  gives =
      let start : splice.span.from - 1 ≡ length a = omega (arith, from) in
      let front : take (splice.span.from - 1) (a ++ (b ++ c)) ≡ a = ap (λ n. take n (a ++ (b ++ c))) start ∙ take-append_seam a (b ++ c) in
      let behind : splice.span.from - 1 + splice.span.del ≡ length a + length b = omega (arith, from, del) in
      let back : drop (splice.span.from - 1 + splice.span.del) (a ++ (b ++ c)) ≡ c = ap (λ n. drop n (a ++ (b ++ c))) behind ∙ drop-append-add a (b ++ c) (length b) ∙ drop-append_seam b c in
      ap (λ t. t ++ (splice.lines.items ++ drop (splice.span.from - 1 + splice.span.del) (a ++ (b ++ c)))) front
      ∙ ap (λ t. a ++ (splice.lines.items ++ t)) back
      ∙ ap (λ t. a ++ (t ++ c)) lines;
}

-- where the last whole line ends, nothing comes or a line ends
ends-so : (text new : List ℕ) (range whole : ByteRange) → IsWholeAround text range whole → range.from ≤ range.to
    → ((drop whole.to text ≡ []) ⊎ EndsLine (slice_range text whole.from whole.to))
    × ((drop whole.to text ≡ []) ⊎ EndsLine ((slice_range text whole.from range.from ++ new) ++ slice_range text range.to whole.to))
ends-so text new range whole around ordered = by_end around.ends
  where
    by_end : (whole.to ≡ length text) ⊎ (EndsLine (take whole.to text) × (range.to < whole.to))
        → ((drop whole.to text ≡ []) ⊎ EndsLine (slice_range text whole.from whole.to))
        × ((drop whole.to text ≡ []) ⊎ EndsLine ((slice_range text whole.from range.from ++ new) ++ slice_range text range.to whole.to))
    by_end (inl all) = let none = nil_from_length (drop whole.to text) (omega (arith, length-drop whole.to text, all)) in (inl none, inl none)
    by_end (inr ends) =
        let b = part-ends text whole.from whole.to (omega (arith, around.before, ordered, ends.1)) around.within ends.0 in
        let m = part-ends text range.to whole.to ends.1 around.within ends.0 in
        let x = slice_range text whole.from range.from ++ new in
        (inr (inr b), inr (inr (x ++ m.0, ap (λ t. x ++ t) m.1 ∙ sym (append_assoc x m.0 (10 ∷ [])))))

-- what the lines become that a change touches
pub splice-lines : (text new : List ℕ) (range whole : ByteRange) (splice : LineSplice) → range.from ≤ range.to → IsWholeAround text range whole
    → splice.span.from ≡ length (cut_lines (take whole.from text)) + 1 → splice.span.del ≡ length (cut_lines (slice_range text whole.from whole.to))
    → splice.lines.items ≡ cut_lines ((slice_range text whole.from range.from ++ new) ++ slice_range text range.to whole.to)
    → IsSplice (cut_lines text) splice (cut_lines (replaced text range new))
splice-lines text new range whole splice ordered around from del lines =
    let a = take whole.from text in
    let b = slice_range text whole.from whole.to in
    let c = drop whole.to text in
    let m = (slice_range text whole.from range.from ++ new) ++ slice_range text range.to whole.to in
    let ends = ends-so text new range whole around ordered in
    let old : cut_lines text ≡ cut_lines a ++ (cut_lines b ++ cut_lines c) =
    ap cut_lines (three text whole.from whole.to (omega (arith, around.before, around.after, ordered))) ∙ cut-three a b c around.begins ends.0 in
    let after : cut_lines (replaced text range new) ≡ cut_lines a ++ (cut_lines m ++ cut_lines c) =
    ap cut_lines (replaced-within text new range whole ordered around.before around.after) ∙ cut-three a m c around.begins ends.1 in
    let same = splice-three (cut_lines a) (cut_lines b) (cut_lines c) (cut_lines m) splice from del lines in
    subst (λ l. IsSplice l splice (cut_lines (replaced text range new))) (sym old)
    (subst (λ l. IsSplice (cut_lines a ++ (cut_lines b ++ cut_lines c)) splice l) (sym after) same)
