-- Lines of the joined text, and the numbers of their bytes' lines.
use Rattle.std.proofs.Common.{◌≡◌, ◌∙◌, ◌<◌, ◌≤◌, ◌+◌, ◌-◌, ◌++◌, ℕ, zero, suc, Bool, true, false, if◌then◌else◌, List, [], ◌∷◌, append_assoc, drop, get_or, length, replicate, take, length-append, length-drop, refl, sym, ap, arith}
use Rattle.std.proofs.lemmas.List.{drop_more, drop_all, length-replicate}
use Rattle.idl_source.specs.texts.Line.{newline}
use Rattle.idl_lex.specs.bytes.Text.{Placed, bytes_of, numbered, is_continued, front, joined}
use Rattle.idl_lex.specs.tokens.Logical.{placed, line_at, joined_count, continued}

pub bytes_of-placed : (numbers : List ℕ) (last : ℕ) (bytes : List ℕ) → bytes_of (placed numbers last bytes) ≡ bytes
bytes_of-placed numbers last [] = refl
bytes_of-placed [] last (b ∷ bytes) = ap (λ bs. b ∷ bs) (bytes_of-placed [] last bytes)
bytes_of-placed (n ∷ numbers) last (b ∷ bytes) = ap (λ bs. b ∷ bs) (bytes_of-placed numbers last bytes)

pub length-placed : (numbers : List ℕ) (last : ℕ) (bytes : List ℕ) → length (placed numbers last bytes) ≡ length bytes
length-placed numbers last [] = refl
length-placed [] last (b ∷ bytes) = ap (λ n. suc n) (length-placed [] last bytes)
length-placed (n ∷ numbers) last (b ∷ bytes) = ap (λ n. suc n) (length-placed numbers last bytes)

pub line_at-placed : (numbers : List ℕ) (last : ℕ) (bytes : List ℕ) (i : ℕ) → i < length bytes → line_at (placed numbers last bytes) i ≡ get_or numbers i last
line_at-placed numbers last [] i lt = absurd (omega arith)
line_at-placed [] last (b ∷ bytes) zero lt = refl
line_at-placed [] last (b ∷ bytes) (suc i) lt = line_at-placed [] last bytes i (omega arith)
line_at-placed (n ∷ numbers) last (b ∷ bytes) zero lt = refl
line_at-placed (n ∷ numbers) last (b ∷ bytes) (suc i) lt = line_at-placed numbers last bytes i (omega arith)

-- bytes of one line
pub placed-nil : (last : ℕ) (bytes : List ℕ) → placed [] last bytes ≡ numbered last bytes
placed-nil last [] = refl
placed-nil last (b ∷ bytes) = ap (λ ps. record { byte = b; line = last } ∷ ps) (placed-nil last bytes)

-- bytes after those that have their numbers
pub placed-append : (numbers : List ℕ) (last : ℕ) (bytes more : List ℕ) → length numbers ≡ length bytes
    → placed numbers last (bytes ++ more) ≡ placed numbers 0 bytes ++ numbered last more
placed-append [] last [] more e = placed-nil last more
placed-append [] last (b ∷ bytes) more e = absurd (omega (arith, e))
placed-append (n ∷ numbers) last [] more e = absurd (omega (arith, e))
placed-append (n ∷ numbers) last (b ∷ bytes) more e = ap (λ ps. record { byte = b; line = n } ∷ ps) (placed-append numbers last bytes more (omega (arith, e)))

-- bytes with their numbers
placed-replicate : (last n : ℕ) (bytes : List ℕ) → placed (replicate (length bytes) n) last bytes ≡ numbered n bytes
placed-replicate last n [] = refl
placed-replicate last n (b ∷ bytes) = ap (λ ps. record { byte = b; line = n } ∷ ps) (placed-replicate last n bytes)

pub placed-more : (numbers : List ℕ) (n : ℕ) (bytes more : List ℕ) → length numbers ≡ length bytes
    → placed (numbers ++ replicate (length more) n) 0 (bytes ++ more) ≡ placed numbers 0 bytes ++ numbered n more
placed-more [] n [] more e = placed-replicate 0 n more
placed-more [] n (b ∷ bytes) more e = absurd (omega (arith, e))
placed-more (m ∷ numbers) n [] more e = absurd (omega (arith, e))
placed-more (m ∷ numbers) n (b ∷ bytes) more e = ap (λ ps. record { byte = b; line = m } ∷ ps) (placed-more numbers n bytes more (omega (arith, e)))

-- the first of several lines
pub spliced-cons : (number : ℕ) (bytes : List ℕ) (lines : List (List ℕ)) → 0 < length lines → continued number (bytes ∷ lines) ≡ numbered number (front bytes) ++ continued (number + 1) lines
spliced-cons number bytes [] some = absurd (omega arith)
spliced-cons number bytes (next ∷ lines) some = refl

-- a newline after bytes
numbered-newline : (number : ℕ) (bytes : List ℕ) → numbered number (bytes ++ newline ∷ []) ≡ numbered number bytes ++ record { byte = newline; line = number } ∷ []
numbered-newline number [] = refl
numbered-newline number (b ∷ bytes) = ap (λ ps. record { byte = b; line = number } ∷ ps) (numbered-newline number bytes)

-- a first line of a text with its newline
abbrev pub first_then : ℕ → List (List ℕ) → ℕ → ℕ → List Placed
first_then number lines count last_number =
    continued number (take count lines) ++ record { byte = newline; line = last_number } ∷ joined (number + count) (drop count lines)

-- The joined text begins with its first line: the lines that are joined, and a newline.
pub record Begins (number : ℕ) (lines : List (List ℕ)) : Type 0 where
  pub last_number : ℕ
  pub text : joined number lines ≡ first_then number lines (joined_count lines) last_number

ended-line : (number : ℕ) (bytes : List ℕ) (rest : List Placed) → numbered number (bytes ++ newline ∷ []) ++ rest ≡ numbered number bytes ++ record { byte = newline; line = number } ∷ rest
ended-line number bytes rest =
    ap (λ ps. ps ++ rest) (numbered-newline number bytes) ∙ append_assoc (numbered number bytes) (record { byte = newline; line = number } ∷ []) rest

count-some : (c : Bool) (lines : List (List ℕ)) → 0 < (if c then suc (joined_count lines) else 1)
count-some true lines = omega arith
count-some false lines = omega arith

pub joined_count-some : (bytes : List ℕ) (lines : List (List ℕ)) → 0 < joined_count (bytes ∷ lines)
joined_count-some bytes lines = count-some (is_continued bytes) lines

take-some : (n : ℕ) (bytes : List ℕ) (lines : List (List ℕ)) → 0 < n → 0 < length (take n (bytes ∷ lines))
take-some zero bytes lines some = absurd (omega arith)
take-some (suc n) bytes lines some = omega arith

Begins-last : (c : Bool) (number : ℕ) (bytes : List ℕ) → is_continued bytes ≡ c
    → numbered number (bytes ++ newline ∷ []) ≡ first_then number (bytes ∷ []) (if c then 1 else 1) number
unfolding joined
Begins-last true number bytes e = numbered-newline number bytes
Begins-last false number bytes e = numbered-newline number bytes

Begins-more : (c : Bool) (number : ℕ) (bytes next : List ℕ) (lines : List (List ℕ)) → is_continued bytes ≡ c → Begins (number + 1) (next ∷ lines) → Begins number (bytes ∷ next ∷ lines)
unfolding joined
Begins-more true number bytes next lines e rest =
    let count = joined_count (next ∷ lines) in
    let sum : number + 1 + count ≡ number + suc count = omega arith in
    record {
      last_number = rest.last_number;
      text =
          ap (λ b. if b then numbered number (front bytes) ++ joined (number + 1) (next ∷ lines) else numbered number (bytes ++ newline ∷ []) ++ joined (number + 1) (next ∷ lines)) e
          ∙ ap (λ ps. numbered number (front bytes) ++ ps) rest.text
          ∙ sym (append_assoc (numbered number (front bytes)) (continued (number + 1) (take count (next ∷ lines))) _)
          ∙ ap (λ ps. ps ++ record { byte = newline; line = rest.last_number } ∷ joined (number + 1 + count) (drop count (next ∷ lines)))
          (sym (spliced-cons number bytes (take count (next ∷ lines)) (take-some count next lines (joined_count-some next lines))))
          ∙ ap (λ n. continued number (bytes ∷ take count (next ∷ lines)) ++ record { byte = newline; line = rest.last_number } ∷ joined n (drop count (next ∷ lines))) sum
          ∙ ap (λ b. first_then number (bytes ∷ next ∷ lines) (if b then suc count else 1) rest.last_number) (sym e);
    }
Begins-more false number bytes next lines e rest =
    record {
      last_number = number;
      text =
          ap (λ b. if b then numbered number (front bytes) ++ joined (number + 1) (next ∷ lines) else numbered number (bytes ++ newline ∷ []) ++ joined (number + 1) (next ∷ lines)) e
          ∙ ended-line number bytes (joined (number + 1) (next ∷ lines))
          ∙ ap (λ b. first_then number (bytes ∷ next ∷ lines) (if b then suc (joined_count (next ∷ lines)) else 1) number) (sym e);
    }

pub Begins-joined : (number : ℕ) (bytes : List ℕ) (lines : List (List ℕ)) → Begins number (bytes ∷ lines)
unfolding joined
Begins-joined number bytes [] = record { last_number = number; text = Begins-last (is_continued bytes) number bytes refl }
Begins-joined number bytes (next ∷ lines) = Begins-more (is_continued bytes) number bytes next lines refl (Begins-joined (number + 1) next lines)

pub Begins-some : (number : ℕ) (lines : List (List ℕ)) → 0 < length lines → Begins number lines
Begins-some number [] some = absurd (omega arith)
Begins-some number (bytes ∷ lines) some = Begins-joined number bytes lines

pub joined-nil : (number : ℕ) → joined number [] ≡ []
unfolding joined
joined-nil number = refl

-- a number more
pub replicate-push : (items : List ℕ) (x k count : ℕ) → k < count → (items ++ x ∷ []) ++ replicate (count - (k + 1)) x ≡ items ++ replicate (count - k) x
replicate-push items x k count lt =
    let e : count - k ≡ suc (count - (k + 1)) = omega arith in
    append_assoc items (x ∷ []) (replicate (count - (k + 1)) x) ∙ ap (λ n. items ++ replicate n x) (sym e)

-- one line
pub spliced-one : (number : ℕ) (lines : List (List ℕ)) (line : List ℕ) → 1 ≤ length lines → length lines < 2 → line ≡ get_or lines 0 line → placed [] number line ≡ continued number lines
spliced-one number [] line some one e = absurd (omega arith)
spliced-one number (l ∷ []) line some one e = placed-nil number line ∙ ap (numbered number) e
spliced-one number (l ∷ next ∷ lines) line some one e = absurd (omega arith)

-- lines joined so far, with the next one
pub record Joined (number i : ℕ) (lines : List (List ℕ)) (numbers bytes numbers' bytes' : List ℕ) : Type 0 where
  pub numbered : length numbers' ≡ length bytes'
  pub text : placed numbers' 0 bytes' ++ continued (number + (i + 1)) (drop (i + 1) lines) ≡ placed numbers 0 bytes ++ continued (number + i) (drop i lines)

from-place : (lines : List (List ℕ)) (number i : ℕ) (line : List ℕ) → i + 1 < length lines → line ≡ get_or lines i line
    → continued (number + i) (drop i lines) ≡ numbered (number + i) (front line) ++ continued (number + (i + 1)) (drop (i + 1) lines)
from-place lines number i line more e =
    let sum : number + i + 1 ≡ number + (i + 1) = omega arith in
    ap (continued (number + i)) (drop_more lines i line (omega arith) ∙ ap (λ l. l ∷ drop (i + 1) lines) (sym e))
    ∙ spliced-cons (number + i) line (drop (i + 1) lines) (omega (arith, length-drop (i + 1) lines, more))
    ∙ ap (λ n. numbered (number + i) (front line) ++ continued n (drop (i + 1) lines)) sum

pub join-more : (lines : List (List ℕ)) (number i : ℕ) (line numbers bytes : List ℕ) → i + 1 < length lines → line ≡ get_or lines i line → length numbers ≡ length bytes
    → Joined number i lines numbers bytes (numbers ++ replicate (length (front line)) (number + i)) (bytes ++ front line)
join-more lines number i line numbers bytes more e same =
    record {
      numbered = length-append numbers (replicate (length (front line)) (number + i))
          ∙ ap (λ n. length numbers + n) (length-replicate (length (front line)) (number + i))
          ∙ ap (λ n. n + length (front line)) same
          ∙ sym (length-append bytes (front line));
      text = ap (λ ps. ps ++ continued (number + (i + 1)) (drop (i + 1) lines)) (placed-more numbers (number + i) bytes (front line) same)
          ∙ append_assoc (placed numbers 0 bytes) (numbered (number + i) (front line)) (continued (number + (i + 1)) (drop (i + 1) lines))
          ∙ ap (λ ps. placed numbers 0 bytes ++ ps) (sym (from-place lines number i line more e));
    }

pub join-last : (lines : List (List ℕ)) (number i : ℕ) (line numbers bytes : List ℕ) → i + 1 ≤ length lines → length lines ≤ i + 1 → line ≡ get_or lines i line → length numbers ≡ length bytes
    → placed numbers (number + i) (bytes ++ line) ≡ placed numbers 0 bytes ++ continued (number + i) (drop i lines)
join-last lines number i line numbers bytes within last e same =
    placed-append numbers (number + i) bytes line same
    ∙ ap (λ ls. placed numbers 0 bytes ++ continued (number + i) ls)
    (sym (drop_more lines i line (omega arith) ∙ ap (λ l. l ∷ drop (i + 1) lines) (sym e) ∙ ap (λ ls. line ∷ ls) (drop_all (i + 1) lines last)))
