use Rattle.std.proofs.Common.{◌≡◌, max, [], ap, ◌∙◌, arith}
use Rattle.confirm_book.specs.Book.{new_ledger, totals_in}
use Rattle.confirm_book.specs.Calls.{log_of, confirmed_by}
use Rattle.confirm_book.proofs.Books.{book_begins, book_calls}
use Rattle.confirm_book.proofs.laws.the_totals_count_what_is_confirmed.Goals as goal

pub returns : goal.returns
returns c = λ spare calls can.
    let e : max (confirmed_by calls) 0 ≡ confirmed_by calls = omega arith in
    (book_calls [] 0 (new_ledger spare) calls (book_begins spare) can).totals ∙ ap (λ n. totals_in n (log_of calls)) e
