-- Lines that come in parts.
use Rattle.std.proofs.Common.{◌≡◌, ◌∷◌, ◌++◌, ◌∙◌, ◌&&◌, Bool, true, false, cond, not, eqb, ltb, leb, ℕ, ◌+◌, ◌<◌, ◌≤◌, List, [], Option, Some, None, length, take, drop, sym, ap, refl, arith, subst, length-append, append_assoc}
use Rattle.std.specs.Bool.{MatchBool}
use Rattle.std.specs.Option.{option_map}
use Rattle.std.specs.List.{list_all, onto_first}
use Rattle.std.proofs.lemmas.Bool.Decides.{nat_tests}
use Rattle.std.proofs.lemmas.List.{append-nil, length-drop, length-take-le, take-append-drop}
use Rattle.std.proofs.lemmas.List.Folds.{list_all-append}
use Rattle.idl_source.specs.devices.Device.{prepend}
use Rattle.idl_session.specs.Lines.{lines_of, onto_next, whole_lines, line_within}
use Rattle.idl_session.specs.Streams.{Fed, Stream, stream_of, rest_after, fuel, onto, unread, IsOver, TakesWhole, TakesLines, TakesLine, FailsWithin}
use Rattle.idl_session.specs.Reading.{IsReading, line_with}

-- two pieces that are to come, one after the other, are one
pub prepend-prepend : {X : Type 0} (o : Option (List X)) (xs ys : List X) → prepend xs (prepend ys o) ≡ prepend (xs ++ ys) o
prepend-prepend None xs ys = refl
prepend-prepend (Some zs) xs ys = ap Some (sym (append_assoc xs ys zs))

first_so : (a b : Bool) → (a && b) ≡ true → (a ≡ true) × (b ≡ true)
first_so true b e = (refl, e)
first_so false b e = absurd (cc)

not_so : (a : Bool) → not a ≡ true → a ≡ false
not_so true e = absurd (cc)
not_so false e = refl

-- nothing was taken
pub prepend-none : {X : Type 0} (o : Option (List X)) → o ≡ prepend [] o
prepend-none None = refl
prepend-none (Some xs) = refl

pub onto-onto : (stream : Stream) (xs ys : List ℕ) → onto xs (onto ys stream) ≡ onto (xs ++ ys) stream
onto-onto stream xs ys = λ i. record { bytes = prepend-prepend stream.bytes xs ys i; ended = stream.ended }

pub onto-none : (stream : Stream) → stream ≡ onto [] stream
onto-none stream = λ i. record { bytes = prepend-none stream.bytes i; ended = stream.ended }

-- bytes that were read come before all others
pub fed-onto : (rest : Option (List ℕ)) (fed : Fed) (n : ℕ) → stream_of rest fed ≡ onto (take n fed.bytes) (stream_of rest (record fed { bytes = drop n fed.bytes }))
fed-onto rest fed n =
    let rest' = rest_after fed.ended rest in
    let whole = ap (λ (xs : List ℕ). prepend xs rest') (sym (take-append-drop n fed.bytes)) ∙ sym (prepend-prepend rest' (take n fed.bytes) (drop n fed.bytes)) in
    λ i. record { bytes = whole i; ended = fed.ended }

-- the first bytes that were read were taken
pub fed-taken : (rest : Option (List ℕ)) (fed new : Fed) (n : ℕ) (part : List ℕ) → take n fed.bytes ≡ part → new ≡ record fed { bytes = drop n fed.bytes } → stream_of rest fed ≡ onto part (stream_of rest new)
fed-taken rest fed new n part first is =
    fed-onto rest fed n ∙ ap (λ (xs : List ℕ). onto xs (stream_of rest (record fed { bytes = drop n fed.bytes }))) first ∙ ap (λ (f : Fed). onto part (stream_of rest f)) (sym is)

-- and so fewer may still come
pub fed-nearer : (reads n : ℕ) (fed new : Fed) → 0 < n → 0 < length fed.bytes → new ≡ record fed { bytes = drop n fed.bytes } → fuel reads new < fuel reads fed
fed-nearer reads n fed new some more is = omega (arith, ap (λ (f : Fed). length f.bytes) is, length-drop n fed.bytes, some, more)

-- something is left between two places
pub fed-some : (bytes : List ℕ) (start end : ℕ) → start < end → end ≤ length bytes → drop start (take end bytes) ≡ [] → ⊥
fed-some bytes start end less within none = omega (arith, ap length none, length-drop start (take end bytes), length-take-le end bytes within)

over_after : (rest : Option (List ℕ)) → IsOver (prepend [] (rest_after true rest))
over_after None = tt
over_after (Some bytes) = refl

-- all was taken, and the end was told before
pub fed-end : (rest : Option (List ℕ)) (fed : Fed) → fed.ended ≡ true → fed.bytes ≡ [] → (stream_of rest fed ≡ record (stream_of rest fed) { ended = true }) × IsOver (stream_of rest fed).bytes
fed-end rest fed ended none = (
  λ i. record { bytes = prepend fed.bytes (rest_after fed.ended rest); ended = ended i },
  subst (λ (xs : List ℕ). IsOver (prepend xs (rest_after fed.ended rest))) (sym none)
      (subst (λ (b : Bool). IsOver (prepend [] (rest_after b rest))) (sym ended) (over_after rest)),
)

-- the end has come or not
pub clash : (b : Bool) → b ≡ true → b ≡ false → ⊥
clash true p q = absurd (cc)
clash false p q = absurd (cc)

-- a line that ends in a newline
pub lines_of-newline : (part rest : List ℕ) → list_all (λ b. not (eqb b 10)) part ≡ true → lines_of (part ++ 10 ∷ rest) ≡ part ∷ lines_of rest
lines_of-newline [] rest e = refl
lines_of-newline (b ∷ part) rest e =
    let both = first_so (not (eqb b 10)) (list_all (λ x. not (eqb x 10)) part) e in
    ap (λ t. cond t ([] ∷ lines_of (part ++ 10 ∷ rest)) (onto_first b (lines_of (part ++ 10 ∷ rest)))) (not_so (eqb b 10) both.0)
    ∙ ap (onto_first b) (lines_of-newline part rest both.1)

-- a last line without newline
pub lines_of-last : (b : ℕ) (part : List ℕ) → list_all (λ x. not (eqb x 10)) (b ∷ part) ≡ true → lines_of (b ∷ part) ≡ (b ∷ part) ∷ []
lines_of-last b [] e =
    let both = first_so (not (eqb b 10)) true e in
    ap (λ t. cond t ([] ∷ []) ((b ∷ []) ∷ [])) (not_so (eqb b 10) both.0)
lines_of-last b (x ∷ part) e =
    let both = first_so (not (eqb b 10)) (list_all (λ y. not (eqb y 10)) (x ∷ part)) e in
    ap (λ t. cond t ([] ∷ lines_of (x ∷ part)) (onto_first b (lines_of (x ∷ part)))) (not_so (eqb b 10) both.0)
    ∙ ap (onto_first b) (lines_of-last x part both.1)

-- a newline ends the first line
whole_lines-newline : (part rest : List ℕ) → list_all (λ b. not (eqb b 10)) part ≡ true → whole_lines (part ++ 10 ∷ rest) ≡ part ∷ whole_lines rest
whole_lines-newline [] rest e = refl
whole_lines-newline (b ∷ part) rest e =
    let both = first_so (not (eqb b 10)) (list_all (λ x. not (eqb x 10)) part) e in
    ap (λ t. cond t ([] ∷ whole_lines (part ++ 10 ∷ rest)) (onto_next b (whole_lines (part ++ 10 ∷ rest)))) (not_so (eqb b 10) both.0)
    ∙ ap (onto_next b) (whole_lines-newline part rest both.1)

-- no line is whole without a newline
whole_lines-part : (part : List ℕ) → list_all (λ b. not (eqb b 10)) part ≡ true → whole_lines part ≡ []
whole_lines-part [] e = refl
whole_lines-part (b ∷ part) e =
    let both = first_so (not (eqb b 10)) (list_all (λ x. not (eqb x 10)) part) e in
    ap (λ t. cond t ([] ∷ whole_lines part) (onto_next b (whole_lines part))) (not_so (eqb b 10) both.0)
    ∙ ap (onto_next b) (whole_lines-part part both.1)

kept_by_bound : (n : ℕ) (part more : List ℕ) (t : Bool) → leb (length part) n ≡ t → line_with n (cond t (Some part) None) more ≡ line_within n (part ++ more)
kept_by_bound n part more true h = refl
kept_by_bound n part more false h =
    let e : leb (length (part ++ more)) n ≡ false = grind (arith, nat_tests, length-append part more) in
    sym (ap (λ t. cond t (Some (part ++ more)) None) e)

line_with-line_within : (n : ℕ) (part more : List ℕ) → line_with n (line_within n part) more ≡ line_within n (part ++ more)
line_with-line_within n part more = kept_by_bound n part more (leb (length part) n) refl

both_so : (a b : Bool) → a ≡ true → b ≡ true → (a && b) ≡ true
both_so true b e f = f
both_so false b e f = absurd (cc)

not_none : (b : ℕ) (part : List ℕ) → ltb 0 (length (b ∷ part)) ≡ false → ⊥
not_none b part e = grind (arith, nat_tests)

-- further bytes of the line were taken
reading-part : (n : ℕ) (old mid new : Stream) (held held' : Option (List ℕ)) (any any' : Bool) (more : List ℕ) → (r : IsReading n old mid held any) → mid ≡ onto more new → list_all (λ b. not (eqb b 10)) more ≡ true → held' ≡ line_with n held more
    → any' ≡ ltb 0 (length (r.part ++ more)) → IsReading n old new held' any'
reading-part n old mid new held held' any any' more r taken one_line is some = record {
  part = r.part ++ more;
  one_line = list_all-append (λ b. not (eqb b 10)) r.part more ∙ both_so _ _ r.one_line one_line;
  taken = r.taken ∙ ap (onto r.part) taken ∙ onto-onto new r.part more;
  keeps = is ∙ ap (λ h. line_with n h more) r.keeps ∙ line_with-line_within n r.part more;
  has_byte = some;
}

pub reading-more : (n : ℕ) (old mid new : Stream) (held held' : Option (List ℕ)) (any : Bool) (more : List ℕ) → IsReading n old mid held any → mid ≡ onto more new → list_all (λ b. not (eqb b 10)) more ≡ true → held' ≡ line_with n held more → 0 < length more
    → IsReading n old new held' true
reading-more n old mid new held held' any more r taken one_line is some =
    reading-part n old mid new held held' any true more r taken one_line is (grind (arith, nat_tests, length-append r.part more))

newline_taken : (part : List ℕ) (new : Option (List ℕ)) → list_all (λ b. not (eqb b 10)) part ≡ true
    → option_map lines_of (prepend part (prepend (10 ∷ []) new)) ≡ prepend (part ∷ []) (option_map lines_of new)
newline_taken part None e = refl
newline_taken part (Some rest) e = ap Some (lines_of-newline part rest e)

line_taken : (n : ℕ) (old mid new : Stream) (held : Option (List ℕ)) (any : Bool) → IsReading n old mid held any → mid ≡ onto (10 ∷ []) new → TakesLine n old new held
line_taken n old mid new held any r taken = (
  r.part,
  record {
    taken = ap (λ (s : Stream). option_map lines_of s.bytes) (r.taken ∙ ap (onto r.part) taken) ∙ newline_taken r.part new.bytes r.one_line;
    whole = λ _. record {
      bytes = r.part ++ 10 ∷ [];
      taken = r.taken ∙ ap (onto r.part) taken ∙ onto-onto new r.part (10 ∷ []);
      cut = λ rest. ap whole_lines (append_assoc r.part (10 ∷ []) rest) ∙ whole_lines-newline r.part rest r.one_line;
    };
  },
  r.keeps,
)

-- the last bytes of the line were taken, and its newline
pub reading-newline : (n : ℕ) (old mid new : Stream) (held held' : Option (List ℕ)) (any : Bool) (more : List ℕ) → IsReading n old mid held any → mid ≡ onto (more ++ 10 ∷ []) new → list_all (λ b. not (eqb b 10)) more ≡ true → held' ≡ line_with n held more
    → TakesLine n old new held'
reading-newline n old mid new held held' any more r taken one_line is =
    let some = ltb 0 (length (r.part ++ more)) in
    line_taken n old (onto (10 ∷ []) new) new held' some
    (reading-part n old mid (onto (10 ∷ []) new) held held' any some more r (taken ∙ sym (onto-onto new more (10 ∷ []))) one_line is refl) refl

-- a whole line stood there
pub whole_line-taken : (n : ℕ) (old new : Stream) (line : List ℕ) → old ≡ onto (line ++ 10 ∷ []) new → list_all (λ b. not (eqb b 10)) line ≡ true → TakesLine n old new (line_within n line)
whole_line-taken n old new line taken one_line = line_taken n old (onto (10 ∷ []) new) new (line_within n line) (ltb 0 (length line)) (record {
  part = line;
  one_line = one_line;
  taken = taken ∙ sym (onto-onto new line (10 ∷ []));
  keeps = refl;
  has_byte = refl;
}) refl

last_taken : (part : List ℕ) (mid : Option (List ℕ)) → list_all (λ b. not (eqb b 10)) part ≡ true → IsOver mid → ltb 0 (length part) ≡ true
    → option_map lines_of (prepend part mid) ≡ prepend (part ∷ []) (option_map lines_of mid)
last_taken part None e over some = refl
last_taken [] (Some rest) e over some = absurd (cc)
last_taken (b ∷ part) (Some rest) e over some =
    let Goal : List ℕ → Type 0 = λ r. option_map lines_of (prepend (b ∷ part) (Some r)) ≡ prepend ((b ∷ part) ∷ []) (option_map lines_of (Some r)) in
    subst Goal (sym over) (ap Some (ap lines_of (append-nil (b ∷ part)) ∙ lines_of-last b part e))

none_read : (old mid new : Stream) (part : List ℕ) → old ≡ onto part mid → new ≡ record mid { ended = true } → IsOver mid.bytes → ltb 0 (length part) ≡ false
    → (new ≡ record old { ended = true }) × IsOver old.bytes
none_read old mid new [] taken same over none =
    let still : old ≡ mid = taken ∙ sym (onto-none mid) in
    (same ∙ ap (λ (s : Stream). record s { ended = true }) (sym still), subst (λ (s : Stream). IsOver s.bytes) (sym still) over)
none_read old mid new (b ∷ part) taken same over none = absurd (not_none b part none)

pub reading-end : (n : ℕ) (old mid new : Stream) (held : Option (List ℕ)) (any : Bool) → IsReading n old mid held any → new ≡ record mid { ended = true } → IsOver mid.bytes
    → MatchBool any (TakesLine n old new held) ((new ≡ record old { ended = true }) × IsOver old.bytes)
reading-end n old mid new held true r same over = (
  r.part,
  record {
    taken = ap (λ (s : Stream). option_map lines_of s.bytes) r.taken ∙ last_taken r.part mid.bytes r.one_line over (sym r.has_byte)
        ∙ ap (λ (s : Stream). prepend (r.part ∷ []) (option_map lines_of s.bytes)) (sym same);
    whole = λ going. absurd (clash new.ended (ap (λ (s : Stream). s.ended) same) going);
  },
  r.keeps,
)
reading-end n old mid new held false r same over = none_read old mid new r.part r.taken same over (sym r.has_byte)

-- a read failed in the line
pub reading-fails : (n : ℕ) (old mid : Stream) (rest held : Option (List ℕ)) (any : Bool) → IsReading n old mid held any → mid ≡ unread rest → FailsWithin 1 old rest
reading-fails n old mid rest held any r left = record {
  bytes = r.part;
  taken = r.taken ∙ ap (onto r.part) left;
  few = omega (arith, ap length (whole_lines-part r.part r.one_line));
}

-- no line was taken
pub lines-none : (stream : Stream) → TakesLines stream stream []
lines-none stream = record {
  taken = prepend-none (option_map lines_of stream.bytes);
  whole = λ _. record { bytes = []; taken = onto-none stream; cut = λ rest. refl };
}

whole-more : (old mid new : Stream) (xs ys : List (List ℕ)) → TakesWhole old mid xs → TakesWhole mid new ys → TakesWhole old new (xs ++ ys)
whole-more old mid new xs ys s t = record {
  bytes = s.bytes ++ t.bytes;
  taken = s.taken ∙ ap (onto s.bytes) t.taken ∙ onto-onto new s.bytes t.bytes;
  cut = λ rest.
      ap whole_lines (append_assoc s.bytes t.bytes rest) ∙ s.cut (t.bytes ++ rest) ∙ ap (λ (ls : List (List ℕ)). xs ++ ls) (t.cut rest) ∙ sym (append_assoc xs ys (whole_lines rest));
}

-- further lines were taken
pub lines-more : (old mid new : Stream) (xs ys : List (List ℕ)) → TakesLines old mid xs → TakesLines mid new ys → TakesLines old new (xs ++ ys)
lines-more old mid new xs ys s t = record {
  taken = s.taken ∙ ap (prepend xs) t.taken ∙ prepend-prepend (option_map lines_of new.bytes) xs ys;
  whole = λ going.
      let last = t.whole going in
      whole-more old mid new xs ys (s.whole (ap (λ (s : Stream). s.ended) last.taken ∙ going)) last;
}

-- a read failed after these lines
pub fails-later : (old mid : Stream) (rest : Option (List ℕ)) (xs : List (List ℕ)) (k n : ℕ) → TakesLines old mid xs → FailsWithin k mid rest → length xs + k ≤ n → FailsWithin n old rest
fails-later old mid rest xs k n s f within =
    let w = s.whole (ap (λ (s : Stream). s.ended) f.taken) in
    record {
      bytes = w.bytes ++ f.bytes;
      taken = w.taken ∙ ap (onto w.bytes) f.taken ∙ onto-onto (unread rest) w.bytes f.bytes;
      few = omega (arith, ap length (w.cut f.bytes), length-append xs (whole_lines f.bytes), f.few, within);
    }
