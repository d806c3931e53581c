use Rattle.std.proofs.Common.{◌≡◌, ℕ, List, [], ◌++◌, take, Option, None, Some, IfSome, ap₂, ◌∙◌, subst}
use Rattle.std.specs.Option.{option_map}
use Rattle.tie_file.specs.Source.{ReadOf}
use Rattle.tie_file.proofs.source.read_file.Goals as goal

limited :
    (known : Option (List ℕ)) (n : ℕ) (none bytes : List ℕ)
    → n ≡ 16385
    → none ≡ []
    → IfSome (option_map (take n) known) (λ xs. bytes ≡ none ++ xs)
    → IfSome known (ReadOf bytes)
limited None n none bytes n_is empty read = tt
limited (Some f) n none bytes n_is empty read =
    read ∙ ap₂ (λ xs k. xs ++ take k f) empty n_is

pub returns : goal.returns
returns g c =
    let known = g.R.Read.remaining in
    subst (λ s. IfSome (known s) (ReadOf c.read_to_end.new.buf.items)) c.take.ensures.inner
    (limited (known c.take.result.inner) c.take.result.limit c.new-bytes.result.items c.read_to_end.new.buf.items
    c.take.ensures.limit c.new-bytes.ensures.items c.in_ok-read_to_end.ensures.bytes)
