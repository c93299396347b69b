use Rattle.std.proofs.Common.{◌≡◌, subst, refl, rules}
use Rattle.std.specs.List.{list_all}
use Rattle.std.proofs.lemmas.Fn.{fold_over, slice_gives, fronts}
use Rattle.ring_script.specs.Words.{is_text_byte}
use Rattle.ring_script.proofs.TextBytes.{all_more}
use Rattle.ring_script.proofs.line.is_all_text.Goals as goal

pub returns : goal.returns
returns c = subst (λ l. c.fold.result ≡ list_all is_text_byte l) c.iter.ensures.rest
    (fold_over fronts (λ y. y.now) _ (λ ys all. all ≡ list_all is_text_byte ys) _ (λ ys a x b f' j k. let more = all_more ys x.now in search rules)
    _ _ _ _ (slice_gives c.iter.result) refl c.fold.ensures.ran)
