use Rattle.confirm_book.proofs.Books.{book_newly, book_came_round}
use Rattle.confirm_book.proofs.laws.a_book_is_of_its_log.Goals as goal

pub returns-clause-came_round : goal.returns-clause-came_round
returns-clause-came_round c = book_came_round

pub returns-clause-newly : goal.returns-clause-newly
returns-clause-newly c = book_newly
