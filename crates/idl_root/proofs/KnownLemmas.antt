-- Units of which the results are known, one after another.
use Rattle.std.proofs.Common.{◌≡◌, ◌∙◌, arith, ℕ, suc, List, [], ◌∷◌, ◌++◌, append_assoc, flat_map, sym, ap}
use Rattle.std.proofs.lemmas.List.Sums.{sum_by-cons}
use Rattle.idl_env.specs.Facts.{UnitFacts}
use Rattle.idl_event.specs.declared.told.site.Site.{Site}
use Rattle.idl_root.specs.AsBefore.{judged_beside}
use Rattle.idl_root.specs.Compile.{Outcome, row_in}
use Rattle.idl_root.specs.Findings.{unit_finding}
use Rattle.idl_root.specs.Followed.{added_by}
use Rattle.idl_root.specs.Held.{with_judged, with_units}
use Rattle.idl_root.specs.Judged.{Judged}
use Rattle.idl_root.specs.Passed.{known_results}
use Rattle.idl_root.specs.Printed.{listed_in}
use Rattle.idl_kept.specs.Texts.{DeclarationResult}
use Rattle.idl_root.specs.Results.{marks_of}
use Rattle.idl_root.specs.declared.kept.known.Known.{Known}
use Rattle.idl_root.specs.declared.kept.marks.Mark.TheVariants.{Judged as JudgedMark}
use Rattle.idl_root_blocks.specs.Finding.{one_text, texts_in}
use Rattle.idl_root_blocks.specs.Units.{text_of}
use Rattle.idl_root_blocks.specs.declared.text.BlockPart.TheVariants.{Text}
use Rattle.idl_unit.specs.declared.unit.Unit.{Unit as RootUnit}
use Rattle.idl_unit.specs.declared.unit.Unit.TheVariants.{Spelled}
use Rattle.idl_unit.specs.declared.unit.UnitText.{UnitText}

-- what is gathered of one more, and of those behind it
units-more : (o : Outcome) (j : Judged) (judged : List Judged) → with_units (with_judged o j) judged ≡ with_units o (j ∷ judged)
units-more o j judged = λ i. record {
  facts = o.facts;
  found = append_assoc o.found (unit_finding j) (flat_map unit_finding judged) i;
  rows = append_assoc o.rows (row_in j) (flat_map row_in judged) i;
  listed = append_assoc o.listed (listed_in j) (flat_map listed_in judged) i;
}

-- ---- a unit with tokens

module _ (known behind : Known) (result : DeclarationResult) (first : (count : ℕ) → known_results known (suc count) ≡ result ∷ known_results behind count) (text : UnitText) (sites : List Site) (units : List RootUnit) where
  known-spelled : known_results known (texts_in (text_of (Spelled text sites ∷ units))) ≡ result ∷ known_results behind (texts_in (text_of units))
  known-spelled =
      let more = sum_by-cons one_text (Text text) (text_of units) in
      let same : texts_in (text_of (Spelled text sites ∷ units)) ≡ suc (texts_in (text_of units)) = omega (arith, more) in
      ap (known_results known) same ∙ first (texts_in (text_of units))

  pub added-spelled : (facts : List UnitFacts) → (facts ++ result.out.writes ∷ []) ++ added_by (marks_of units) (known_results behind (texts_in (text_of units)))
      ≡ facts ++ added_by (marks_of (Spelled text sites ∷ units)) (known_results known (texts_in (text_of (Spelled text sites ∷ units))))
  added-spelled facts =
      append_assoc facts (result.out.writes ∷ []) (added_by (marks_of units) (known_results behind (texts_in (text_of units))))
      ∙ ap (λ (rs : List DeclarationResult). facts ++ added_by (JudgedMark ∷ marks_of units) rs) (sym known-spelled)

  pub judged-spelled : (o : Outcome) → with_units (with_judged o (record { text = text; sites = sites; verdict = result.out })) (judged_beside units (known_results behind (texts_in (text_of units))))
      ≡ with_units o (judged_beside (Spelled text sites ∷ units) (known_results known (texts_in (text_of (Spelled text sites ∷ units)))))
  judged-spelled o =
      units-more o (record { text = text; sites = sites; verdict = result.out }) (judged_beside units (known_results behind (texts_in (text_of units))))
      ∙ ap (λ (rs : List DeclarationResult). with_units o (judged_beside (Spelled text sites ∷ units) rs)) (sym known-spelled)
