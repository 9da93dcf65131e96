-- What clients are known by. No public clause cites this module.
use Rattle.std.specs.Prelude.{option_map}
use Rattle.qtext_client.specs.Conversations.{Progress}
use Rattle.qtext_client.specs.Terms.{binding_of}
use Rattle.qtool.specs.Terms.{ClientTerms}
use Rattle.qtool.specs.declared.client_names.ClientNames.{ClientNames}

-- on which terms the client of these names is served
abbrev pub terms_in : ClientNames → ClientTerms
terms_in names = record {
  bound = option_map binding_of names.terms;
  share = option_map (λ terms. terms.share) names.terms;
}

-- on which terms a client is served from now on
abbrev pub terms_of_client : Progress → ClientTerms
terms_of_client p = record { bound = p.bound; share = p.share }
