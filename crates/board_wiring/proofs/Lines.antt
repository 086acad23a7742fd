-- The lines of a wiring are read in one way only.
use Rattle.std.proofs.Common.{◌≡◌, ◌≢◌, ◌<◌, ◌+◌, ℕ, List, [], ◌∷◌, ◌++◌, length, Option, None, Some, refl, sym, ap, ◌∙◌, append_assoc, IsTrue, arith}
use Rattle.std.specs.Prelude.{codes}
use Rattle.std.proofs.lemmas.Grind.{flat_map-append}
use Rattle.std.proofs.lemmas.List.{append_cancel_left, append-nil, length_push}
use Rattle.batch.specs.Text.{IsNumber, number, space, line_feed}
use Rattle.batch.proofs.Lines.{Ends, ends_line, ends_space, one_number}
use Rattle.c004_commands.specs.declared.port.TheConstants.{PORTS}
use Rattle.crossbar.specs.declared.switch.TheConstants.{JOINED_MODULES}
use Rattle.line_words.proofs.Numbers.{after_word}
use Rattle.board_wiring.specs.Faults.{AreModules, HasPorts, IsPort}
use Rattle.board_wiring.specs.Modules.{are_wired}
use Rattle.board_wiring.specs.Text.{links, line, lines_of, place}
use Rattle.board_wiring.specs.declared.wired_module.WiredModule.{WiredModule}

-- what stands after a number is one, and so is the number
pub after_number : (bytes words : List ℕ) (n m e : ℕ) (a b : List ℕ) → Ends e → IsNumber n → IsNumber m → bytes ≡ words ++ (number n e ++ a) → bytes ≡ words
    ++ (number m e ++ b) → (n ≡ m) × (a ≡ b)
after_number bytes words n m e a b ends ln lm p q = one_number n m e a b ln lm ends (after_word bytes words (number n e ++ a) (number m e ++ b) p q)

-- ports and modules are numbers of a text
port_number : (n : ℕ) → n < PORTS → IsNumber n
port_number n lt = omega arith

module_number : (n : ℕ) → n < JOINED_MODULES → IsNumber n
module_number n lt = omega arith

-- ---- the place of a link

-- a link of the switch stands after `at `
pub at_link : (l e : ℕ) (rest : List ℕ) → place (Some l) e ++ rest ≡ codes "at " ++ (number l e ++ rest)
at_link l e rest = append_assoc (codes "at ") (number l e) rest

first_byte : List ℕ → ℕ
first_byte [] = 0
first_byte (x ∷ xs) = x

-- where `none` stands no link does
never_none : (l e : ℕ) (x y : List ℕ) → codes "none" ++ x ≡ place (Some l) e ++ y → ⊥
unfolding first_byte
never_none l e x y same = let n : 110 ≡ 97 = ap first_byte same in omega (arith, n)

-- one place, and one rest
pub one_place : (a b : Option ℕ) (e : ℕ) (x y : List ℕ) → Ends e → IsPort a → IsPort b → place a e ++ x ≡ place b e ++ y → (a ≡ b) × (x ≡ y)
one_place None None e x y ends p q same = (refl, append_cancel_left (place None e) x y same)
one_place None (Some b) e x y ends p q same = absurd (never_none b e (e ∷ x) y same)
one_place (Some a) None e x y ends p q same = absurd (never_none a e (e ∷ y) x (sym same))
one_place (Some a) (Some b) e x y ends p q same =
    let one = after_number (place (Some a) e ++ x) (codes "at ") a b e x y ends (port_number a p) (port_number b q) (at_link a e x) (same ∙ at_link b e y) in
    (ap (λ l. Some l) one.0, one.1)

pub after_place : (bytes words : List ℕ) (a b : Option ℕ) (e : ℕ) (x y : List ℕ) → Ends e → IsPort a → IsPort b → bytes ≡ words ++ (place a e ++ x) → bytes
    ≡ words ++ (place b e ++ y) → (a ≡ b) × (x ≡ y)
after_place bytes words a b e x y ends p q same other = one_place a b e x y ends p q (after_word bytes words (place a e ++ x) (place b e ++ y) same other)

-- `none` without the byte that ends it is no place
pub not_ended : (bytes words rest more : List ℕ) (link : Option ℕ) (e : ℕ) (after : List ℕ) → bytes ≡ words ++ rest → rest ≡ codes "none" ++ more
    → ((x : List ℕ) → more ≢ e ∷ x) → bytes ≡ words ++ (place link e ++ after) → ⊥
not_ended bytes words rest more None e after p q none same =
    none after (append_cancel_left (codes "none") more (e ∷ after) (sym q ∙ after_word bytes words rest (place None e ++ after) p same))
not_ended bytes words rest more (Some l) e after p q none same =
    never_none l e more after (sym q ∙ after_word bytes words rest (place (Some l) e ++ after) p same)

-- and so is what is neither `none` nor a link
pub not_placed : (bytes words rest : List ℕ) (link : Option ℕ) (e : ℕ) (after : List ℕ) → bytes ≡ words ++ rest → ((x : List ℕ) → rest ≢ codes "none" ++ x)
    → ((n : ℕ) (x : List ℕ) → n < PORTS → rest ≢ codes "at " ++ (number n e ++ x)) → IsPort link → bytes ≡ words ++ (place link e ++ after) → ⊥
not_placed bytes words rest None e after p none no_link port same = none (e ∷ after) (after_word bytes words rest (place None e ++ after) p same)
not_placed bytes words rest (Some l) e after p none no_link port same = no_link l after port (after_word bytes words rest (place (Some l) e ++ after) p same
    ∙ at_link l e after)

-- ---- a line

-- its parts: after the number of its module, and after the place of link 0
abbrev pub behind0 : WiredModule → List ℕ → List ℕ
behind0 on rest = codes "link 3 " ++ (place on.link3 line_feed ++ rest)

abbrev pub after_module : WiredModule → List ℕ → List ℕ
after_module on rest = codes "link 0 " ++ (place on.link0 space ++ behind0 on rest)

links_parts : (on : WiredModule) (rest : List ℕ) → links on ++ rest ≡ after_module on rest
links_parts on rest =
    append_assoc (codes "link 0 ") (place on.link0 space ++ (codes "link 3 " ++ place on.link3 line_feed)) rest
    ∙ ap (λ (t : List ℕ). codes "link 0 " ++ t) (
    append_assoc (place on.link0 space) (codes "link 3 " ++ place on.link3 line_feed) rest
    ∙ ap (λ (t : List ℕ). place on.link0 space ++ t) (append_assoc (codes "link 3 ") (place on.link3 line_feed) rest)
    )

pub line_parts : (on : WiredModule) (rest : List ℕ) → line on ++ rest ≡ codes "module " ++ (number on.number space ++ after_module on rest)
line_parts on rest =
    append_assoc (codes "module ") (number on.number space ++ links on) rest
    ∙ ap (λ (t : List ℕ). codes "module " ++ t) (append_assoc (number on.number space) (links on) rest ∙ ap (λ (t : List ℕ). number on.number space ++ t)
    (links_parts on rest))

-- a line that begins with a module's number is that of this module
pub is_module : (bytes : List ℕ) (n : ℕ) (a : List ℕ) (on : WiredModule) (rest : List ℕ) → IsNumber n → HasPorts on → bytes ≡ codes "module "
    ++ (number n space ++ a) → bytes ≡ line on ++ rest → (n ≡ on.number) × (a ≡ after_module on rest)
is_module bytes n a on rest ln ports p q = after_number bytes (codes "module ") n on.number space a (after_module on rest) ends_space ln
    (module_number on.number ports.0) p (q ∙ line_parts on rest)

-- and so on for its link 0
pub is_link0 : (bytes : List ℕ) (n : ℕ) (l : Option ℕ) (a b : List ℕ) (on : WiredModule) (rest : List ℕ) → IsNumber n → IsPort l → HasPorts on → bytes
    ≡ codes "module " ++ (number n space ++ a) → a ≡ codes "link 0 " ++ (place l space ++ b) → bytes ≡ line on ++ rest → (l ≡ on.link0) × (b ≡ behind0 on rest)
is_link0 bytes n l a b on rest ln pl ports p q same =
    let one = is_module bytes n a on rest ln ports p same in
    after_place a (codes "link 0 ") l on.link0 space b (behind0 on rest) ends_space pl ports.1 q one.1

on_links : ℕ → Option ℕ → Option ℕ → WiredModule
on_links n a b = record { number = n; link0 = a; link3 = b }

same_module : (n m : ℕ) (a b c d : Option ℕ) → n ≡ m → a ≡ c → b ≡ d → on_links n a b ≡ on_links m c d
unfolding on_links
same_module n m a b c d p q r = rw (p, q, r) refl

-- one line, and one rest
pub one_line : (a b : WiredModule) (x y : List ℕ) → HasPorts a → HasPorts b → line a ++ x ≡ line b ++ y → (a ≡ b) × (x ≡ y)
unfolding on_links
one_line a b x y pa pb same =
    let whole = is_module (line a ++ x) a.number (after_module a x) b y (module_number a.number pa.0) pb (line_parts a x) same in
    let first = is_link0 (line a ++ x) a.number a.link0 (after_module a x) (behind0 a x) b y (module_number a.number pa.0) pa.1 pb (line_parts a x) refl same in
    let last = after_place (behind0 a x) (codes "link 3 ") a.link3 b.link3 line_feed x y ends_line pa.2 pb.2 refl first.1 in
    (same_module a.number b.number a.link0 a.link3 b.link0 b.link3 whole.0 first.0 last.0, last.1)

-- ---- one module more

lines_more : (ms : List WiredModule) (on : WiredModule) → lines_of (ms ++ on ∷ []) ≡ lines_of ms ++ line on
lines_more ms on = flat_map-append line ms (on ∷ []) ∙ ap (λ (t : List ℕ). lines_of ms ++ t) (append-nil (line on))

pub more_modules : (lines : List ℕ) (t : ℕ) (ms all : List WiredModule) (on : WiredModule) (rest after : List ℕ) → AreModules lines t ms rest → rest ≡ line on
    ++ after → all ≡ ms ++ on ∷ [] → IsTrue (are_wired all) → AreModules lines (t + 1) all after
more_modules lines t ms all on rest after so_far next more own = record {
  counted = ap length more ∙ length_push ms on ∙ ap (λ k. k + 1) so_far.counted;
  wired = own;
  spelled = so_far.spelled ∙ ap (λ (x : List ℕ). lines_of ms ++ x) next ∙ sym (append_assoc (lines_of ms) (line on) after)
      ∙ ap (λ (x : List ℕ). x ++ after) (sym (lines_more ms on) ∙ ap lines_of (sym more));
}
