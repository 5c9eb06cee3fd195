use Rattle.std.proofs.Common.{◌≡◌, ◌∙◌, ◌++◌, ℕ, List, String, Global, ap, map, string_bytes}
use Rattle.comparison.specs.ComparisonText.{kinds_text, records_text}
use Rattle.comparison.proofs.printing.comparison_text.Goals as goal

-- four pieces, one after the other
joined : (one two three four summary kinds more records : List ℕ) → one ≡ summary → two ≡ one ++ kinds → three ≡ two ++ more
    → four ≡ three ++ records → four ≡ ((summary ++ kinds) ++ more) ++ records
joined one two three four summary kinds more records a b c d =
    d ∙ ap (λ (it : List ℕ). it ++ records) (c ∙ ap (λ (it : List ℕ). it ++ more) (b ∙ ap (λ (it : List ℕ). it ++ kinds) a))

pub returns : goal.returns
returns c =
    joined _ _ _ _ _ _ _ _ c.in_ok-text.ensures
    (c.in_ok-put_kinds.ensures ∙ ap (λ (it : List (String Global × ℕ)). string_bytes c.in_ok-text.text ++ kinds_text it) c.first_kinds.ensures)
    (c.in_ok-push_str.ensures.bytes
    ∙ ap (λ (it : List ℕ). string_bytes c.put_kinds.new.text ++ it) (c.as_str.ensures.value ∙ c.in_ok-more.ensures))
    (c.in_ok-put_records.ensures ∙ ap (λ (it : List ℕ). string_bytes c.push_str.new.self
    ++ records_text (map (λ row. row.now) c.args.first.now) (map (λ row. row.now) c.args.second.now) it) c.first_places.ensures)
