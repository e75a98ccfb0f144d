pub mod NestingViews
