-- The text of a schedule, and what a text says. The form is this project's choice.
use Rattle.std.specs.Prelude.{◌≡◌, ℕ, List, [], ◌∷◌, ◌++◌, length, map, All, Option, Some, None}
use Rattle.std.specs.Prelude.{IfSome, codes}
use Rattle.std.specs.Borrow.{Bor}
use Rattle.std.specs.Global.{Vec}
use Rattle.std.specs.List.{flat_map}
use Rattle.std.specs.Option.{option_copied}
use Rattle.std.specs.Fmt.{decimal}
use Rattle.batch.specs.Text.{IsNumber, line_feed}
use Rattle.link_graph.specs.declared.link.End.{End}
use Rattle.link_graph.specs.declared.link.End.TheVariants.{Zero, Three}
use Rattle.link_graph.specs.declared.link.Link.{Link}
use Rattle.link_graph.specs.Links.{IsInRack}
use Rattle.link_graph.specs.Certificates.{Naming, IsNaming}

-- ---- lines, without their line feeds

-- a number with a space before it
abbrev pub spaced : ℕ → List ℕ
spaced t = codes " " ++ decimal t

-- each number with a space before it
abbrev pub numbers : List ℕ → List ℕ
numbers ts = flat_map (λ t. codes " " ++ decimal t) ts

-- `settings S`
abbrev pub settings_line : ℕ → List ℕ
settings_line count = codes "settings " ++ decimal count

-- `setting t t ..`
abbrev pub setting_line : List ℕ → List ℕ
setting_line setting = codes "setting" ++ numbers setting

-- the number of an end at its module
abbrev pub end_number : End → ℕ
end_number Zero = 0
end_number Three = 3

-- `busiest link E module M`
abbrev pub busiest_line : Link → List ℕ
busiest_line link =
    codes "busiest link " ++ decimal (end_number link.end) ++ codes " module "
    ++ decimal link.«module»

-- ` module M`
abbrev pub module_words : ℕ → List ℕ
module_words m = codes " module " ++ decimal m

-- `named t t ..`
abbrev pub named_line : List ℕ → List ℕ
named_line transfers = codes "named" ++ numbers transfers

-- ---- what a text says

-- settings, and what the certificate part names, where there is that part
pub record CertifiedSettings : Type 0 where
  pub settings : List (List ℕ)
  pub certificate : Option Naming

-- what these say
abbrev pub said : List (List ℕ) → Option Naming → CertifiedSettings
said settings certificate = record { settings = settings; certificate = certificate }

-- the line that counts the settings, and a line for each of them
abbrev pub schedule_lines : List (List ℕ) → List (List ℕ)
schedule_lines settings = settings_line (length settings) ∷ map setting_line settings

-- `busiest none`, or the lines of the link and of the transfers that are named with it
abbrev pub naming_lines : Option Link → List ℕ → List (List ℕ)
naming_lines None transfers = codes "busiest none" ∷ []
naming_lines (Some link) transfers = busiest_line link ∷ named_line transfers ∷ []

-- the certificate part, where there is one
abbrev pub certificate_lines : Option Naming → List (List ℕ)
certificate_lines None = []
certificate_lines (Some named) = naming_lines named.link named.transfers

-- all lines
abbrev pub said_lines : CertifiedSettings → List (List ℕ)
said_lines s = schedule_lines s.settings ++ certificate_lines s.certificate

-- lines, each with its line feed
abbrev pub text_of : List (List ℕ) → List ℕ
text_of lines = flat_map (λ line. line ++ line_feed ∷ []) lines

-- the lines of the settings, below the line that counts them
abbrev pub text_of_settings : List (List ℕ) → List ℕ
text_of_settings settings = text_of (map setting_line settings)

-- the one text of the settings alone
abbrev pub schedule_text : List (List ℕ) → List ℕ
schedule_text settings = text_of (schedule_lines settings)

-- the one text of what is said
abbrev pub said_text : CertifiedSettings → List ℕ
said_text s = text_of (said_lines s)

-- the one text of the settings, with what the certificate part names where there is that part
abbrev pub text_with : List (List ℕ) → Option Naming → List ℕ
text_with settings certificate = said_text (said settings certificate)

-- the same where the certificate is lent
abbrev pub text_lent : List (List ℕ) → Option (Bor Naming) → List ℕ
text_lent settings certificate = text_with settings (option_copied certificate)

-- the new text is the old with these lines at its end
abbrev pub GrowsBy : Vec ℕ → Vec ℕ → List (List ℕ) → Type 0
GrowsBy old new lines = new.items ≡ old.items ++ text_of lines

-- ---- what a text can say

-- the count of settings and each transfer number are numbers of a text
pub record CanSpell (settings : List (List ℕ)) : Type 0 where
  pub count : IsNumber (length settings)
  pub transfers : All (All IsNumber) settings

-- the link is one of a module that a rack may have, and the transfers are numbers of a text
pub record CanSpellNaming (named : Naming) : Type 0 where
  pub in_rack : IfSome named.link IsInRack
  pub transfers : All IsNumber named.transfers

-- the same where something may be named or not
abbrev pub CanName : Option Naming → Type 0
CanName certificate = IfSome certificate CanSpellNaming

-- it has a text
pub record CanSay (s : CertifiedSettings) : Type 0 where
  pub settings_fit : CanSpell s.settings
  pub names_fit : CanName s.certificate
  pub link_named : IfSome s.certificate IsNaming

-- the text says this
pub record Says (text : List ℕ) (s : CertifiedSettings) : Type 0 where
  pub spelled : text ≡ said_text s
  pub can_say : CanSay s
