-- A reply that goes out in pieces.
use Rattle.std.proofs.Common.{◌≡◌, ◌++◌, ◌∷◌, ◌+◌, ◌<◌, ◌∙◌, ℕ, List, [], Option, None, Some, Result, Ok, Err, take, drop, length, sym, ap, refl, subst, append_assoc, arith, length-append, get_or}
use Rattle.std.specs.List.{flat_map}
use Rattle.std.specs.Result.{OnErr}
use Rattle.std.proofs.lemmas.List.{append-nil, take-append-le, take_more, take-append-drop}
use Rattle.std.proofs.lemmas.Grind.{flat_map-append}
use Rattle.std.proofs.Math.Seq.{take-append-add}
use Rattle.idl_source.specs.devices.Device.{append, WritesPart}
use Rattle.idl_source.proofs.DeviceLemmas.{append-append}
use Rattle.idl_loader.specs.Gathering.{Sends}

-- it holds in any case
pub on_err : {T E P : Type 0} (r : Result T E) → P → OnErr r P
on_err (Ok value) p = tt
on_err (Err error) p = p

pub append-none : (w : Option (List ℕ)) → w ≡ append w []
append-none None = refl
append-none (Some xs) = ap Some (sym (append-nil xs))

-- a beginning of the first piece is one of both
pub part-front : (w v : Option (List ℕ)) (xs ys : List ℕ) → WritesPart w xs v → WritesPart w (xs ++ ys) v
part-front w v xs ys part = (
  part.0,
  omega (arith, part.1, length-append xs ys),
  part.2 ∙ ap (append w) (sym (take-append-le part.0 xs ys (omega (arith, part.1)))),
)

-- after the first piece, a beginning of the second is one of both
pub part-back : (w v : Option (List ℕ)) (xs ys : List ℕ) → WritesPart (append w xs) ys v → WritesPart w (xs ++ ys) v
part-back w v xs ys part = (
  length xs + part.0,
  omega (arith, part.1, length-append xs ys),
  part.2 ∙ append-append w xs (take part.0 ys) ∙ ap (append w) (sym (take-append-add xs ys part.0)),
)

pub part-after : (w v u : Option (List ℕ)) (xs ys : List ℕ) → v ≡ append w xs → WritesPart v ys u → WritesPart w (xs ++ ys) u
part-after w v u xs ys written part = part-back w u xs ys (subst (λ o. WritesPart o ys u) written part)

-- all has gone out
pub sends-all : (w v u : Option (List ℕ)) (xs ys held : List ℕ) → v ≡ append w xs → u ≡ append v ys → held ≡ [] → Sends w (xs ++ ys) u held
sends-all w v u xs ys held first second none = record {
  gone = xs ++ ys;
  written = second ∙ ap (λ o. append o ys) first ∙ append-append w xs ys;
  whole = ap (λ h. (xs ++ ys) ++ h) none ∙ append-nil (xs ++ ys);
}

whole-more : (gone held a b c : List ℕ) → gone ++ held ≡ a ++ b → gone ++ (held ++ c) ≡ a ++ (b ++ c)
whole-more gone held a b c whole = sym (append_assoc gone held c) ∙ ap (λ zs. zs ++ c) whole ∙ append_assoc a b c

-- a piece more was gathered
pub sends-more : (w v u : Option (List ℕ)) (a b c held later : List ℕ) → Sends w (a ++ b) v held → Sends v (held ++ c) u later → Sends w (a ++ (b ++ c)) u later
sends-more w v u a b c held later s t = record {
  gone = s.gone ++ t.gone;
  written = t.written ∙ ap (λ o. append o t.gone) s.written ∙ append-append w s.gone t.gone;
  whole = append_assoc s.gone t.gone later ∙ ap (λ zs. s.gone ++ zs) t.whole ∙ whole-more s.gone held a b c s.whole;
}

-- a piece more failed
pub sends-part : (w v u : Option (List ℕ)) (a b c held : List ℕ) → Sends w (a ++ b) v held → WritesPart v (held ++ c) u → WritesPart w (a ++ (b ++ c)) u
sends-part w v u a b c held s part =
    subst (λ zs. WritesPart w zs u) (whole-more s.gone held a b c s.whole)
    (part-back w u s.gone (held ++ c) (subst (λ o. WritesPart o (held ++ c) u) s.written part))

-- the first of two pieces failed
pub part-first : (w v : Option (List ℕ)) (a b c : List ℕ) → WritesPart w (a ++ b) v → WritesPart w (a ++ (b ++ c)) v
part-first w v a b c part = subst (λ zs. WritesPart w zs v) (append_assoc a b c) (part-front w v (a ++ b) c part)

-- what was held went out
pub sends-end : (w v u : Option (List ℕ)) (done held : List ℕ) → Sends w done v held → u ≡ append v held → u ≡ append w done
sends-end w v u done held s last = last ∙ ap (λ o. append o held) s.written ∙ append-append w s.gone held ∙ ap (append w) s.whole

-- what was held failed
pub sends-end-part : (w v u : Option (List ℕ)) (done held : List ℕ) → Sends w done v held → WritesPart v held u → WritesPart w done u
sends-end-part w v u done held s part =
    subst (λ zs. WritesPart w zs u) s.whole (part-back w u s.gone held (subst (λ o. WritesPart o held u) s.written part))

-- the lines of one row more
pub lines-more : (f : List ℕ → List ℕ) (rows : List (List ℕ)) (i : ℕ) (row : List ℕ) → i < length rows → row ≡ get_or rows i row
    → flat_map f (take i rows) ++ f row ≡ flat_map f (take (i + 1) rows)
lines-more f rows i row within is =
    ap (λ r. flat_map f (take i rows) ++ f r) is
    ∙ ap (λ zs. flat_map f (take i rows) ++ zs) (sym (append-nil (f (get_or rows i row))))
    ∙ sym (flat_map-append f (take i rows) (get_or rows i row ∷ []))
    ∙ ap (flat_map f) (sym (take_more rows i row within))

-- the lines of the first rows are a beginning of those of all
pub lines-part : (w v : Option (List ℕ)) (head : List ℕ) (f : List ℕ → List ℕ) (rows : List (List ℕ)) (n : ℕ)
    → WritesPart w (head ++ flat_map f (take n rows)) v → WritesPart w (head ++ flat_map f rows) v
lines-part w v head f rows n part =
    subst (λ zs. WritesPart w (head ++ zs) v) (sym (flat_map-append f (take n rows) (drop n rows)) ∙ ap (flat_map f) (take-append-drop n rows))
    (part-first w v head (flat_map f (take n rows)) (flat_map f (drop n rows)) part)
