-- What the first bytes of a message tell.
use Rattle.std.proofs.Common.{◌≡◌, ◌∙◌, ◌≤◌, ltb, Bool, true, false, ℕ, List, ◌++◌, length, take, drop, map, Option, None, Some, Result, Ok, refl, sym, ap, subst, arith, append_assoc, length-take}
use Rattle.std.specs.Prelude.{if◌then◌else◌}
use Rattle.std.proofs.lemmas.Bool.{ltb-true, ltb-false}
use Rattle.std.proofs.lemmas.List.{length-map, take-append-drop, take-append-le}
use Rattle.std.proofs.Math.Seq.{take-append_seam}
use Rattle.httparse.specs.declared.Error.{Error}
use Rattle.httparse.specs.declared.Status.{Status}
use Rattle.httparse.specs.declared.Status.TheVariants.{Complete, Partial}
use Rattle.httparse.specs.declared.spans.HeaderSpan.{HeaderSpan}
use Rattle.httparse.specs.Outcome.{IfComplete, OnPartial}
use Rattle.httparse.specs.Grammar.{print_section, HasNoSection}
use Rattle.httparse.specs.Spans.{header_bytes, name_and_value, IsSectionOf, IsSectionWithin}
use Rattle.httparse.proofs.GrammarLemmas.{section_unique}
use Rattle.idl_editor.specs.frames.Message.{announced, IsHead, longest_body, longest_head}
use Rattle.idl_editor.specs.frames.Heads.{HasNoHead, Tells, begun_by, head_by}
use Rattle.idl_editor.specs.declared.frames.head.Head.TheVariants.{Whole, Begun, OverLimit, Missing}

-- what the fields announce that were found
abbrev found : List ℕ → List HeaderSpan → ℕ → Option ℕ
found bytes headers count = announced (map (header_bytes bytes) (take count headers))

-- the bytes of the section that was found
section-size : (bytes : List ℕ) (headers : List HeaderSpan) (len count : ℕ) → (s : IsSectionOf bytes 0 headers (len, count)) → len ≡ length (print_section s.0 s.1)
section-size bytes headers len count s = omega (arith, s.2.len_is)

section-bytes : (bytes : List ℕ) (headers : List HeaderSpan) (len count : ℕ) → (s : IsSectionOf bytes 0 headers (len, count)) → take len bytes ≡ print_section s.0 s.1
section-bytes bytes headers len count s =
    ap (take len) s.2.reads.1 ∙ ap (λ n. take n (print_section s.0 s.1 ++ drop len bytes)) (section-size bytes headers len count s) ∙ take-append_seam (print_section s.0 s.1) (drop len bytes)

-- a head at the front is that section
section-head : (bytes : List ℕ) (headers : List HeaderSpan) (len count : ℕ) → IsSectionOf bytes 0 headers (len, count)
    → (more head rest : List ℕ) (n : ℕ) → bytes ++ more ≡ head ++ rest → IsHead head n
    → (length head ≡ len) × (length head ≤ longest_head) × (found bytes headers count ≡ Some n)
section-head bytes headers len count s more head rest n e h =
    let text = ap (λ t. t ++ more) s.2.reads.1 ∙ append_assoc (print_section s.0 s.1) (drop len bytes) more in
    let same = section_unique (bytes ++ more) h.0 s.0 h.1 s.1 rest (drop len bytes ++ more) (h.2.are_fields, e ∙ ap (λ t. t ++ rest) h.2.text) (s.2.reads.0, text) in (
      ap length (h.2.text ∙ (λ i. print_section (same.0 i) (same.1 i))) ∙ sym (section-size bytes headers len count s),
      h.2.short,
      ap announced s.2.fields_are ∙ ap (λ fields. announced (map name_and_value fields)) (sym same.0) ∙ h.2.announces,
    )

section-is_head : (bytes : List ℕ) (headers : List HeaderSpan) (len count n : ℕ) → length headers ≡ 16 → IsSectionWithin bytes headers len count
    → IsSectionOf bytes 0 headers (len, count) → len ≤ longest_head → found bytes headers count ≡ Some n → IsHead (take len bytes) n
section-is_head bytes headers len count n room within s short e = (
  s.0,
  s.1,
  record {
    are_fields = s.2.reads.0;
    few = omega (arith, ap length s.2.fields_are, length-map (take count headers) (header_bytes bytes), length-map s.0 name_and_value, length-take count headers, room, within.count_fits);
    text = section-bytes bytes headers len count s;
    short = omega (arith, short, length-take len bytes);
    announces = sym (ap announced s.2.fields_are) ∙ e;
  },
)

clash : {X : Type 0} (x : X) → None ≡ Some x → ⊥
clash x e = absurd (cc)

-- what was found of a section tells of a head
pub tells-complete : (bytes : List ℕ) (headers : List HeaderSpan) (len count : ℕ) → length headers ≡ 16 → IsSectionWithin bytes headers len count
    → IsSectionOf bytes 0 headers (len, count) → Tells bytes (head_by len (found bytes headers count))
tells-complete bytes headers len count room within s = by_number (found bytes headers count) refl
  where
    by_body : (n : ℕ) → found bytes headers count ≡ Some n → len ≤ longest_head → (t : Bool) → ltb longest_body n ≡ t → Tells bytes (if t then OverLimit else Whole len n)
    by_body n e short true t = (len, n, (within.len_fits, section-is_head bytes headers len count n room within s short e), ltb-true _ _ t)
    by_body n e short false t = ((within.len_fits, section-is_head bytes headers len count n room within s short e), ltb-false _ _ t)

    by_len : (n : ℕ) → found bytes headers count ≡ Some n → (t : Bool) → ltb longest_head len ≡ t
        → Tells bytes (if t then Missing else if ltb longest_body n then OverLimit else Whole len n)
    by_len n e true t = λ more head rest m same h.
        let is = section-head bytes headers len count s more head rest m same h in
        let over = ltb-true longest_head len t in omega (arith, is.0, is.1, over)
    by_len n e false t = by_body n e (ltb-false longest_head len t) (ltb longest_body n) refl

    by_number : (o : Option ℕ) → found bytes headers count ≡ o → Tells bytes (head_by len o)
    by_number None e = λ more head rest m same h. clash m (sym e ∙ (section-head bytes headers len count s more head rest m same h).2)
    by_number (Some n) e = by_len n e (ltb longest_head len) refl

-- a head at the front of more bytes that is no longer than they are is at their front
head-within : (bytes more head rest : List ℕ) → bytes ++ more ≡ head ++ rest → length head ≤ length bytes → bytes ≡ head ++ drop (length head) bytes
head-within bytes more head rest e fits =
    let front : take (length head) bytes ≡ head = sym (take-append-le (length head) bytes more fits) ∙ ap (take (length head)) e ∙ take-append_seam head rest in
    sym (take-append-drop (length head) bytes) ∙ ap (λ t. t ++ drop (length head) bytes) front

no-head : (bytes : List ℕ) → HasNoSection bytes → HasNoHead bytes
no-head bytes none head rest n e h = none h.0 h.1 rest (h.2.are_fields, e ∙ ap (λ t. t ++ rest) h.2.text)

-- bytes without a section may begin a head where they are few
pub tells-partial : (bytes : List ℕ) → HasNoSection bytes → Tells bytes (begun_by (length bytes))
tells-partial bytes none = by_len (ltb (length bytes) longest_head) refl
  where
    by_len : (t : Bool) → ltb (length bytes) longest_head ≡ t → Tells bytes (if t then Begun else Missing)
    by_len true t = no-head bytes none
    by_len false t = λ more head rest n e h.
        let enough = ltb-false (length bytes) longest_head t in
        let fits : length head ≤ length bytes = omega (arith, enough, h.2.short) in
        no-head bytes none head (drop (length head) bytes) n (head-within bytes more head rest e fits) h

-- the same of what the parser answered
pub tells-found : (bytes : List ℕ) (headers : List HeaderSpan) (r : Result (Status (ℕ × ℕ)) Error) (len count : ℕ) → r ≡ Ok (Complete (len, count)) → length headers ≡ 16
    → IfComplete r (λ p. IsSectionWithin bytes headers p.0 p.1) → IfComplete r (IsSectionOf bytes 0 headers) → Tells bytes (head_by len (found bytes headers count))
tells-found bytes headers r len count is room within s =
    tells-complete bytes headers len count room
    (subst (λ t. IfComplete t (λ p. IsSectionWithin bytes headers p.0 p.1)) is within)
    (subst (λ t. IfComplete t (IsSectionOf bytes 0 headers)) is s)

pub tells-begun : (bytes : List ℕ) (r : Result (Status (ℕ × ℕ)) Error) → r ≡ Ok Partial → OnPartial r (HasNoSection bytes) → Tells bytes (begun_by (length bytes))
tells-begun bytes r is none = tells-partial bytes (subst (λ t. OnPartial t (HasNoSection bytes)) is none)
