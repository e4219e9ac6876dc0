use Rattle.std.proofs.Common.{◌≡◌, ◌∙◌, ◌-◌, ◌<◌, ◌≤◌, drop, length, take, rules}
use Rattle.idl_text.specs.Digest.{of_ends}
use Rattle.idl_text.proofs.DigestLemmas.{digest-long, digest-middle, digest-short, digest-whole}
use Rattle.idl_text.proofs.texts.digest.digest_of.Goals as goal

pub returns-then-word-ge17 : goal.returns-then-word-ge17
returns-then-word-ge17 c =
    let word = c.args.word.now in
    let many : 17 ≤ length word = search rules in
    c.with_bytes.ensures ∙ digest-whole word many

pub returns-then-word-ge8 : goal.returns-then-word-ge8
returns-then-word-ge8 c =
    let word = c.args.word.now in
    let few : length word < 17 = search rules in
    let long : 8 ≤ length word = search rules in
    let front : c.unwrap.result.now ≡ take 8 word = search rules in
    let back : c.unwrap-then-word-ge8.result.now ≡ drop (length word - 8) word = search rules in
    c.of_ends.ensures
    ∙ (λ i. of_ends (c.from_le_bytes-first.ensures i) (c.from_le_bytes-last.ensures i))
    ∙ digest-long word c.unwrap.result.now c.unwrap-then-word-ge8.result.now few long front back

pub returns-then-word-ge4 : goal.returns-then-word-ge4
returns-then-word-ge4 c =
    let word = c.args.word.now in
    let few : length word < 8 = search rules in
    let long : 4 ≤ length word = search rules in
    let front : c.unwrap-then-word-ge4.result.now ≡ take 4 word = search rules in
    let back : c.unwrap-then-word-ge4-2.result.now ≡ drop (length word - 4) word = search rules in
    c.of_ends-then-word-ge4.ensures
    ∙ (λ i. of_ends (c.from.ensures i) (c.from-then-word-ge4.ensures i))
    ∙ (λ i. of_ends (c.from_le_bytes-first-then-word-ge4.ensures i) (c.from_le_bytes-last-then-word-ge4.ensures i))
    ∙ digest-middle word c.unwrap-then-word-ge4.result.now c.unwrap-then-word-ge4-2.result.now few long front back

pub returns : goal.returns
returns c =
    let word = c.args.word.now in
    let few : length word < 4 = search rules in
    c.with_bytes-2.ensures ∙ digest-short word few
