-- What every part of a request goes by.
use Rattle.std.specs.Prelude.{ℕ, List}
use Rattle.outside.specs.RandomWords.{RandomWords, words_from}
use Rattle.middleware_chain.specs.declared.settings.Settings.{Settings}
use Rattle.account_views.specs.declared.facts.Facts.{Facts}

pub record Basis : Type 0 where
  pub settings : Settings
  pub facts : Facts
  -- the random words of the request
  pub draw : List ℕ

-- the random words of a request are the next 1,024
abbrev pub basis_of : Settings → Facts → RandomWords → Basis
basis_of settings facts words = record { settings = settings; facts = facts; draw = words_from words 1024 }
