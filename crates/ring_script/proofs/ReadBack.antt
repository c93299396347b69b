-- What is written is read back: a word, and the phrases of events and of what clients ask.
use Rattle.std.proofs.Common.{◌≡◌, false, Some, refl}
use Rattle.ring_rules.specs.declared.event.Client.{Client}
use Rattle.ring_rules.specs.declared.event.Client.TheVariants as client
use Rattle.ring_rules.specs.declared.event.Event.{Event}
use Rattle.ring_rules.specs.declared.event.Event.TheVariants as event
use Rattle.ring_rules.specs.Event.{is_refusal}
use Rattle.ring_script.specs.declared.vocabulary.Word.{Word}
use Rattle.ring_script.specs.declared.vocabulary.Word.TheVariants as word
use Rattle.ring_script.specs.Vocabulary.{text_of, word_of, asked_phrase, phrase_of, event_said, client_said}

pub word_back : (w : Word) → word_of (text_of w) ≡ Some w
word_back word.Cast = refl
word_back w = refl

pub client_back : (c : Client) → client_said (asked_phrase c) ≡ Some c
client_back (client.Stop by) = refl
client_back c = refl

pub event_back : (e : Event) → is_refusal e ≡ false → event_said (phrase_of e) ≡ Some e
event_back (event.Refuse code inner) h = cc
event_back e h = refl
